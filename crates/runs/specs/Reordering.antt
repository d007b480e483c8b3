-- The same rows by one keep and then the columns.
use Rattle.std.specs.Prelude.{◌≡◌, ℕ, ◌+◌, ◌<◌, ◌≤◌, List, [], ◌∷◌, ◌++◌, map, length, replicate, slice_index, Some}
use Rattle.hash_state.specs.Writes.{Write}
use Rattle.runs.specs.declared.call.Lent.{Lent}
use Rattle.runs.specs.Columns.{Column, column_need}
use Rattle.runs.specs.Requests.{Request, column, keep, accepted}
use Rattle.runs.specs.Refusals.{unclaimed}
use Rattle.runs.specs.Ledger.{Met, Row, Ledger, answers, begun, run}
use Rattle.runs.specs.State.{State, replies, steps}

-- a row before it met the latest column
abbrev pub earlier_met : List Met → List Met
earlier_met [] = []
earlier_met (m ∷ earlier) = earlier

-- a row before its latest column
abbrev pub earlier : Row → Row
earlier r = record { origin = r.origin; entry = r.entry; met = earlier_met r.met }

-- the row of the latest column that a row met
abbrev pub latest_at : List Met → ℕ
latest_at [] = 0
latest_at (m ∷ earlier) = m.at

-- one keep that lists the rows' origins, then the accepted columns in order, each listing for every row the column row whose slot it met
abbrev pub reordered : Lent → List Row → List Column → List Request
reordered lent rows [] = keep (map (λ r. r.origin) rows) lent ∷ []
reordered lent rows (c ∷ columns) =
    reordered lent (map earlier rows) columns ++ column c (Some (map (λ r. latest_at r.met) rows)) lent ∷ []

-- enough unclaimed work for each column
abbrev pub EnoughWork : Lent → List Column → Type 0
EnoughWork lent [] = Unit {0}
EnoughWork lent (c ∷ columns) = (column_need c ≤ unclaimed lent) × EnoughWork lent columns

-- enough entries for the rows before and after the keep, and enough unclaimed work for the keep and each column
pub record Enough (lent : Lent) (begun : ℕ) (l : Ledger) : Type 0 where
  pub before : begun ≤ lent.entries
  pub after : length l.rows ≤ lent.entries
  pub keep : length l.rows ≤ unclaimed lent
  pub columns : EnoughWork lent l.columns

-- two states of a run have the same rows: as many, of as many columns, and each row's word is the same
pub record SameRows (s s' : State) : Type 0 where
  pub rows : s.rows ≡ s'.rows
  pub count : s.count ≡ s'.count
  pub words : (k : ℕ) → k < s'.rows → slice_index s.words k ≡ slice_index s'.words k

-- none of these calls is refused, and they come to the same rows: by the ledger of begin, as many, from the same origins and entries, with the same slots met; and by the state that begin leaves, as many, of as many columns, and with the same words
pub record ComeTo (ONE : List Write → ℕ) (SEED : ℕ → List Write → ℕ) (entries : List ℕ) (start : State) (l : Ledger) (end : State) (requests : List Request) : Type 0 where
  pub answered : answers ONE SEED (begun entries) requests ≡ replicate (1 + length l.columns) accepted
  pub ledger : run (begun entries) requests ≡ l
  pub replied : replies ONE SEED start requests ≡ replicate (1 + length l.columns) accepted
  pub same : SameRows (steps ONE SEED start requests) end

-- after the same begin the reordered calls come to a ledger and to the state that it agrees with
abbrev pub Reorders : (List Write → ℕ) → (ℕ → List Write → ℕ) → List ℕ → State → Ledger → State → Type 0
Reorders ONE SEED entries start l end =
    (lent : Lent) → Enough lent (length entries) l → ComeTo ONE SEED entries start l end (reordered lent l.rows l.columns)
