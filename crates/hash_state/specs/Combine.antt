-- Two numbers made one.
use Rattle.std.specs.Prelude.{◌≡◌, ℕ, ◌+◌, ◌*◌, ◌%◌, ◌^◌, ◌<◌, Bool, List, Option, Some, None, cond}
use Rattle.hash_state.specs.Writes.{Write}

-- the number of l and r together, in 64 bits
abbrev pub C : ℕ → ℕ → ℕ
C l r = ((629 + l) * 37 + r) % 2 ^ 64

-- one-to-one in either argument: beside one and the same number, two words give equal numbers only if they are equal
abbrev pub OneToOne : Type 0
OneToOne =
    (a b c : ℕ) → a < 2 ^ 64 → b < 2 ^ 64 → (C a c ≡ C b c → a ≡ b) × (C c a ≡ C c b → a ≡ b)

-- what a later column makes of its entry e: the number of the state seeded with e, or the value's own number combined with e
abbrev pub later : Bool → ℕ → ℕ → ℕ → ℕ
later seeds seeded one e = cond seeds seeded (C one e)

-- the number of a value in a column: its own, or what a later column makes of the entry that stands for the columns before
abbrev pub entry_number : (List Write → ℕ) → (ℕ → List Write → ℕ) → Option ℕ → Bool → List Write → List Write → ℕ
entry_number ONE SEED None seeds writes seed_writes = ONE writes
entry_number ONE SEED (Some e) seeds writes seed_writes = later seeds (SEED e seed_writes) (ONE writes) e
