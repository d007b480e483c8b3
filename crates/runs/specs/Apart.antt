-- Rows that stay apart.
use Rattle.std.specs.Prelude.{◌≡◌, ℕ, ◌<◌, Bool, true, ◌&&◌, ◌↔◌, List, [], ◌∷◌, map, length}
use Rattle.hash_state.specs.Writes.{Write}
use Rattle.runs.specs.Columns.{Column, combines}
use Rattle.runs.specs.Ledger.{Ledger, is_first, number, row_at}

-- each of the columns combines, the earliest as first and the rest as later
abbrev pub all_combine : List Column → Bool
all_combine [] = true
all_combine (c ∷ earlier) = combines (is_first earlier) c && all_combine earlier

-- two rows that met equal slots, in combining columns only, hold equal numbers exactly when they began with equal entries
abbrev pub StaysApart : (List Write → ℕ) → (ℕ → List Write → ℕ) → Ledger → Type 0
StaysApart ONE SEED l =
    all_combine l.columns ≡ true → (i k : ℕ) → i < length l.rows → k < length l.rows
    → map (λ m. m.slot) (row_at l.rows i).met ≡ map (λ m. m.slot) (row_at l.rows k).met
    → (number ONE SEED (row_at l.rows i) ≡ number ONE SEED (row_at l.rows k)) ↔ ((row_at l.rows i).entry ≡ (row_at l.rows k).entry)
