-- What a hasher is told, and the bytes that this comes to.
use Rattle.std.specs.Prelude.{ℕ, zero, suc, ◌/◌, ◌%◌, List, [], ◌∷◌, ◌++◌}

-- one write: a word of so many bytes, a pair of 8-byte words, or a byte string
pub data Write : Type 0 where
  Word : ℕ → ℕ → Write
  Pair : ℕ → ℕ → Write
  Bytes : List ℕ → Write

-- the lowest w bytes of a number, the lowest first
abbrev pub le_bytes : ℕ → ℕ → List ℕ
le_bytes zero v = []
le_bytes (suc w) v = (v % 256) ∷ le_bytes w (v / 256)

-- the bytes of one write: a pair's first word comes first
abbrev pub bytes_of : Write → List ℕ
bytes_of (Word w v) = le_bytes w v
bytes_of (Pair low high) = le_bytes 8 low ++ le_bytes 8 high
bytes_of (Bytes bs) = bs

-- the bytes of all writes, one after another
abbrev pub joined : List Write → List ℕ
joined [] = []
joined (w ∷ ws) = bytes_of w ++ joined ws
