-- What a call leaves of the work.
use Rattle.std.specs.Prelude.{◌≡◌, ℕ, Bool, false, ◌&&◌, List, length, nat_le, nat_lt, slice_index}

-- whether word k of the work is open to a call that is lent the first `work` words, the first `claimed` of them claimed: those between are. The call computes in them, and nothing is said of what it leaves there, since each call writes such a word before it reads it
abbrev pub is_open : ℕ → ℕ → ℕ → Bool
is_open claimed work k = nat_le claimed k && nat_lt k work

-- there are as many words as before, and each that is not open is as it was
abbrev pub OthersStay : (ℕ → Bool) → List ℕ → List ℕ → Type 0
OthersStay free old new = (length new ≡ length old) × ((k : ℕ) → free k ≡ false → slice_index new k ≡ slice_index old k)
