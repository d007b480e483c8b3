-- What each value tells a hasher.
use Rattle.std.specs.Prelude.{ℕ, ◌-◌, ◌*◌, ◌^◌, Bool, true, false, cond, List, [], ◌∷◌, length, ◌==◌}
use Rattle.hash_state.specs.Writes.{Write, Word, Bytes, le_bytes}

-- a Boolean: one byte, 0 or 1
abbrev pub boolean : Bool → List Write
boolean true = Word 1 1 ∷ []
boolean false = Word 1 0 ∷ []

-- a whole number of w bytes: one word
abbrev pub number : ℕ → ℕ → List Write
number w v = Word w v ∷ []

-- the bits of a float of w bytes, where minus zero, the sign bit alone, is made 0
abbrev pub float_bits : ℕ → ℕ → ℕ
float_bits w b = cond (b == 2 ^ (8 * w - 1)) 0 b

-- a float of w bytes: its bits as one word
abbrev pub float : ℕ → ℕ → List Write
float w b = Word w (float_bits w b) ∷ []

-- the same under a seed: its bits as a byte string
abbrev pub seeded_float : ℕ → ℕ → List Write
seeded_float w b = Bytes (le_bytes w (float_bits w b)) ∷ []

-- text: its bytes, and the byte 255, which UTF-8 never has
abbrev pub text : List ℕ → List Write
text bs = Bytes bs ∷ Word 1 255 ∷ []

-- binary: its length, and its bytes
abbrev pub binary : List ℕ → List Write
binary bs = Word 8 (length bs) ∷ Bytes bs ∷ []

-- nothing: the 4-byte word 1
abbrev pub nothing : List Write
nothing = Word 4 1 ∷ []
