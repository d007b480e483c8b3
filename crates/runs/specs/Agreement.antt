-- When a ledger and a run with its entries say the same, and that a call keeps it so.
use Rattle.std.specs.Prelude.{◌≡◌, ℕ, List, [], ◌∷◌, length}
use Rattle.hash_state.specs.Writes.{Write}
use Rattle.runs.specs.Requests.{Request, Reply}
use Rattle.runs.specs.Ledger.{Row, Ledger, answer, next, number}
use Rattle.runs.specs.State.{State}

module _ (ONE : List Write → ℕ) (SEED : ℕ → List Write → ℕ) where
  -- each row's word is its number, and each row has met so many slots
  abbrev pub Holds : ℕ → List Row → List ℕ → Type 0
  Holds count [] words = Unit {0}
  Holds count (r ∷ rows) [] = ⊥
  Holds count (r ∷ rows) (w ∷ words) = (w ≡ number ONE SEED r) × (length r.met ≡ count) × Holds count rows words

  -- as many rows, as many columns, and each row's word its number
  pub record Agrees (l : Ledger) (s : State) : Type 0 where
    pub rows : s.rows ≡ length l.rows
    pub count : s.count ≡ length l.columns
    pub holds : Holds s.count l.rows s.words

  -- of every ledger that agrees with the run and its words: the answer is its answer, and after the call it agrees again
  abbrev pub Follows : State → Request → Reply → State → Type 0
  Follows s request reply s' =
      (l : Ledger) → Agrees l s → (reply ≡ answer ONE SEED l request) × Agrees (next l request) s'

-- whichever hash state the calls of a run are made with: begin, keep and read ask for none
abbrev pub EachHash : ((List Write → ℕ) → (ℕ → List Write → ℕ) → Type 0) → Type 0
EachHash P = (ONE : List Write → ℕ) (SEED : ℕ → List Write → ℕ) → P ONE SEED
