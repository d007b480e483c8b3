-- The values that are compared, each by the number of its kind.
use Rattle.std.specs.Prelude.{ℕ, ◌%◌, ◌^◌, Bool, cond, ◌&&◌, ◌||◌, nat_lt, ◌==◌, List, [], ◌∷◌, Some, None, Option, slice_index}
use Rattle.hash_state.specs.Combine.{entry_number}
use Rattle.hash_state.specs.Values.{binary, boolean, float, nothing, number, seeded_float, text}
use Rattle.hash_state.specs.Sip.{siphash}
use Rattle.hash_state.specs.Writes.{Pair, Write, joined}

-- the kinds from 0 on: a Boolean; numbers of 1, 2, 4 and 8 bytes; floats of 2, 4 and 8; text; binary; a short view and a long one; each other number is nothing
abbrev pub told : ℕ → ℕ → ℕ → List ℕ → List Write
told kind low high bytes =
    cond (kind == 0) (boolean (low % 2 == 1))
    (cond (kind == 1) (number 1 (low % 2 ^ 8))
    (cond (kind == 2) (number 2 (low % 2 ^ 16))
    (cond (kind == 3) (number 4 (low % 2 ^ 32))
    (cond (kind == 4) (number 8 low)
    (cond (kind == 5) (float 2 (low % 2 ^ 16))
    (cond (kind == 6) (float 4 (low % 2 ^ 32))
    (cond (kind == 7) (float 8 low)
    (cond (kind == 8) (text bytes)
    (cond (kind == 9) (binary bytes)
    (cond (kind == 10) (Pair low high ∷ [])
    (cond (kind == 11) (binary bytes) nothing)))))))))))

-- the same under a seed, where floats are told otherwise
abbrev pub seed_told : ℕ → ℕ → ℕ → List ℕ → List Write
seed_told kind low high bytes =
    cond (kind == 5) (seeded_float 2 (low % 2 ^ 16))
    (cond (kind == 6) (seeded_float 4 (low % 2 ^ 32))
    (cond (kind == 7) (seeded_float 8 low) (told kind low high bytes)))

-- numbers, floats and views seed; the others combine
abbrev pub seeding : ℕ → Bool
seeding kind = (nat_lt 0 kind && nat_lt kind 8) || (kind == 10) || (kind == 11)

-- the entry that two numbers say: none unless the first is 1, else the second
abbrev pub entry_of : List ℕ → Option ℕ
entry_of before = cond (slice_index before 0 == 1) (Some (slice_index before 1)) None

-- SipHash-2-4 of writes, with the first two of the numbers for the words of its key
abbrev pub sip_under : List ℕ → List Write → ℕ
sip_under keys ws = siphash (slice_index keys 0) (slice_index keys 1) (joined ws)

-- the same with a seed for the first word
abbrev pub sip_seeded : List ℕ → ℕ → List Write → ℕ
sip_seeded keys seed ws = siphash seed (slice_index keys 1) (joined ws)

-- the number of a value, with no column before it or after an entry
abbrev pub kind_number : (List Write → ℕ) → (ℕ → List Write → ℕ) → Option ℕ → ℕ → ℕ → ℕ → List ℕ → ℕ
kind_number ONE SEED before kind low high bytes = entry_number ONE SEED before (seeding kind) (told kind low high bytes) (seed_told kind low high bytes)
