-- FNV-1a with 64 bits, as Fowler, Noll and Vo publish it.
use Rattle.std.specs.Prelude.{◌≡◌, ℕ, ◌*◌, ◌%◌, ◌^◌, List, [], ◌∷◌, bit_xor, refl}
use Rattle.std.specs.List.{fold}

-- the standard start, which the publication calls the offset basis
abbrev pub offset_basis : ℕ
offset_basis = 14695981039346656037

-- one byte: exclusive or, then a product with the prime in 64 bits
abbrev pub step : ℕ → ℕ → ℕ
step h b = (bit_xor h b * 1099511628211) % 2 ^ 64

-- the hash of a byte list from a start, one byte after another
abbrev pub fnv1a : ℕ → List ℕ → ℕ
fnv1a h bs = fold step h bs

-- the published hash of the text "a"
pub published_a : fnv1a offset_basis (97 ∷ []) ≡ 0xaf63dc4c8601ec8c
published_a = refl

-- the published hash of the text "foobar"
pub published_foobar : fnv1a offset_basis (102 ∷ 111 ∷ 111 ∷ 98 ∷ 97 ∷ 114 ∷ []) ≡ 0x85944171f73967e8
published_foobar = refl
