-- The ledger of a run: what each of its rows began as, and what it has met since.
use Rattle.std.specs.Prelude.{ℕ, ◌+◌, Bool, true, false, List, [], ◌∷◌, map, length, slice_index_or}
use Rattle.hash_state.specs.Writes.{Write}
use Rattle.image.specs.Slot.{Slot}
use Rattle.row_rule.specs.Number.{number_of}
use Rattle.runs.specs.Columns.{Column, met_at, slot}
use Rattle.runs.specs.Requests.{Request, Reply, column, keep, read}
use Rattle.runs.specs.Refusals.{refusal, reply, unless}

-- a slot that a row met, and the column's row that it stands at
pub record Met : Type 0 where
  pub slot : Slot
  pub at : ℕ

-- the row of begin that a row comes from, the entry there, and what it met, the latest first
pub record Row : Type 0 where
  pub origin : ℕ
  pub entry : ℕ
  pub met : List Met

-- the rows, and the columns that were accepted, the latest first
pub record Ledger : Type 0 where
  pub rows : List Row
  pub columns : List Column

-- what stands for a row that is not there
abbrev pub no_row : Row
no_row = record { origin = 0; entry = 0; met = [] }

-- row j of the rows
abbrev pub row_at : List Row → ℕ → Row
row_at rows j = slice_index_or rows j no_row

-- begin: row j has origin j and word j as its entry, and met nothing
abbrev pub entered : ℕ → List ℕ → List Row
entered j [] = []
entered j (e ∷ entries) = record { origin = j; entry = e; met = [] } ∷ entered (j + 1) entries

-- the ledger that begin gives: these rows, and no columns
abbrev pub begun : List ℕ → Ledger
begun entries = record { rows = entered 0 entries; columns = [] }

-- a row meets a row of a column
abbrev pub meets : Column → ℕ → Row → Row
meets c k r = record { origin = r.origin; entry = r.entry; met = record { slot = slot c k; at = k } ∷ r.met }

-- each row, counted from j, meets the one at its place
abbrev pub all_meet : Column → (ℕ → ℕ) → ℕ → List Row → List Row
all_meet c at j [] = []
all_meet c at j (r ∷ rows) = meets c (at j) r ∷ all_meet c at (j + 1) rows

-- what an accepted call adds: a column its slots, and itself; a keep takes the rows that its list names; a read nothing
abbrev pub added : Ledger → Request → Ledger
added l (column c list lent) = record { rows = all_meet c (met_at list) 0 l.rows; columns = c ∷ l.columns }
added l (keep list lent) = record { rows = map (row_at l.rows) list; columns = l.columns }
added l (read k entries) = l

-- a refused call adds nothing
abbrev pub next : Ledger → Request → Ledger
next l request = unless (refusal (length l.rows) (length l.columns) request) (λ _. l) (added l request)

-- one request after the other
abbrev pub run : Ledger → List Request → Ledger
run l [] = l
run l (request ∷ rest) = run (next l request) rest

-- nothing came before
abbrev pub is_first : {X : Type 0} → List X → Bool
is_first [] = true
is_first (x ∷ xs) = false

module _ (ONE : List Write → ℕ) (SEED : ℕ → List Write → ℕ) where
  -- an entry led through the row rule by what was met, the earliest as first and the rest as later
  abbrev pub led : ℕ → List Met → ℕ
  led e [] = e
  led e (m ∷ earlier) = number_of ONE SEED (is_first earlier) (led e earlier) m.slot

  -- a row's number
  abbrev pub number : Row → ℕ
  number r = led r.entry r.met

  -- what the ledger answers to a request
  abbrev pub answer : Ledger → Request → Reply
  answer l request = reply (length l.rows) (length l.columns) (λ k. number (row_at l.rows k)) request

  -- the answers to one request after the other
  abbrev pub answers : Ledger → List Request → List Reply
  answers l [] = []
  answers l (request ∷ rest) = answer l request ∷ answers (next l request) rest
