-- What a value tells a hasher of its slot.
use Rattle.std.specs.Prelude.{◌≡◌, ℕ, Bool, true, false, List}
use Rattle.hash_state.specs.Combine.{later}
use Rattle.hash_state.specs.Writes.{Write}
use Rattle.image.specs.Slot.{Slot}
use Rattle.row_rule.specs.Number.{number_of}

-- whatever the state and the entry, the row rule numbers a slot by these writes: by ONE of the first when first, and when later by SEED of the second or by combining, as the value's kind has it
pub record Tells (seeding : Bool) (writes seeds : List Write) (s : Slot) : Type 0 where
  pub when_first : (ONE : List Write → ℕ) (SEED : ℕ → List Write → ℕ) (e : ℕ) → number_of ONE SEED true e s ≡ ONE writes
  pub when_later : (ONE : List Write → ℕ) (SEED : ℕ → List Write → ℕ) (e : ℕ) → number_of ONE SEED false e s ≡ later seeding (SEED e seeds) (ONE writes) e
