-- What holds of the row rule's numbers under every hash state.
use Rattle.std.specs.Prelude.{◌≡◌, ℕ, ◌^◌, ◌<◌, Bool, true, false, cond, not, ◌↔◌, List}
use Rattle.hash_state.specs.Writes.{Write}
use Rattle.image.specs.Slot.{Slot, null, nothing, boolean, number, float, text, binary, view, refer, struct, sequence, entries}
use Rattle.row_rule.specs.Number.{is_null, number_of}

-- numbers stay below 2^64 where the state's do
abbrev pub StaysBelow : Type 0
StaysBelow =
    (ONE : List Write → ℕ) (SEED : ℕ → List Write → ℕ) → ((ws : List Write) → ONE ws < 2 ^ 64) → ((s : ℕ) → s < 2 ^ 64 → (ws : List Write) → SEED s ws < 2 ^ 64)
    → (first : Bool) (e : ℕ) (s : Slot) → e < 2 ^ 64 → number_of ONE SEED first e s < 2 ^ 64

-- a slot that combines: its number tells the entry that it came from
abbrev pub combines : Bool → Slot → Bool
combines first null = true
combines first nothing = not first
combines first (boolean b) = not first
combines first (number w n) = false
combines first (float w n) = false
combines first (text bytes) = not first
combines first (binary bytes) = not first
combines first (view bytes) = false
combines first (refer s) = cond first (is_null s) true
combines first (struct ss) = true
combines first (sequence ss) = true
combines first (entries es) = true

-- from two entries a slot that combines comes to one number just where the entries are one
abbrev pub StaysApart : Type 0
StaysApart =
    (ONE : List Write → ℕ) (SEED : ℕ → List Write → ℕ) (first : Bool) (s : Slot) (a b : ℕ) → a < 2 ^ 64 → b < 2 ^ 64
    → combines first s ≡ true → (number_of ONE SEED first a s ≡ number_of ONE SEED first b s) ↔ (a ≡ b)
