-- The hashes of many rows as one number.
use Rattle.std.specs.Prelude.{ℕ, bit_xor, map}
use Rattle.std.specs.List.{fold, range_with_len}
use Rattle.hash_state.specs.Combine.{C}

-- the exclusive or of the hashes of the rows below n
abbrev pub rows : (ℕ → ℕ) → ℕ → ℕ
rows hash n = fold bit_xor 0 (map hash (range_with_len 0 n))

-- the hashes of the rows below n, combined one after another from 0 on
abbrev pub combined : (ℕ → ℕ) → ℕ → ℕ
combined hash n = fold (λ (all i : ℕ). C all (hash i)) 0 (range_with_len 0 n)
