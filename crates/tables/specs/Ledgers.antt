-- The laws of runs at a ledger, as docs/RUNS.md says.
use Rattle.std.specs.Prelude.{◌≡◌, ℕ, true, List, [], ◌∷◌, map, take, slice_index, Some, None}
use Rattle.hash_state.specs.Writes.{Write}
use Rattle.columns.specs.Open.{OthersStay}
use Rattle.image.specs.Slot.{boolean, number, struct, done, ◌⨾◌}
use Rattle.row_rule.specs.Number.{number_of}
use Rattle.runs.specs.declared.call.Lent.{Lent}
use Rattle.runs.specs.Agreement.{Agrees, Follows}
use Rattle.runs.specs.Apart.{StaysApart}
use Rattle.runs.specs.Lasting.{Lasting, begun_state}
use Rattle.runs.specs.Ledger as ledger
use Rattle.runs.specs.Ledger.{Ledger, Row, answers, begun, row_at, run}
use Rattle.runs.specs.Open.{opens}
use Rattle.runs.specs.Reordering.{Enough, Reorders, reordered}
use Rattle.runs.specs.Requests.{Request, Reply, column, keep, read, accepted, refused, row_read}
use Rattle.runs.specs.State.{State, replies, steps}
use Rattle.tables.specs.Calls.{lent, of_table}

-- what each call is lent: three entries, and three words of work behind two that are claimed
abbrev pub room : Lent
room = lent 3 5 2

-- the entries of begin
abbrev pub entries : List ℕ
entries = 7 ∷ 8 ∷ 9 ∷ []

-- the struct of the table; then rows 0, 1 and 0; then the Booleans 0, 1 and 0, by a list
abbrev pub calls : List Request
calls = column (of_table 0) None room ∷ keep (0 ∷ 1 ∷ 0 ∷ []) room ∷ column (of_table 2) (Some (0 ∷ 1 ∷ 0 ∷ [])) room ∷ []

-- the ledger that these calls come to
abbrev pub kept : Ledger
kept = run (begun entries) calls

-- a row of it: its origin, its entry, and the slots that it met, the latest first, each with its row in the column
abbrev pub row : ℕ → ℕ → Row
row origin entry =
    record {
      origin = origin;
      entry = entry;
      met = record { slot = boolean true; at = origin } ∷ record { slot = struct (number 1 5 ⨾ done); at = origin } ∷ [];
    }

-- three rows, the first and the last of one origin, and two columns
abbrev pub KeptRows : Type 0
KeptRows = kept ≡ record { rows = row 0 7 ∷ row 1 8 ∷ row 0 7 ∷ []; columns = of_table 2 ∷ of_table 0 ∷ [] }

-- the calls that come to the same rows: one keep of the origins, and each column by a list of the rows met
abbrev pub again : List Request
again = keep (0 ∷ 1 ∷ 0 ∷ []) room ∷ column (of_table 0) (Some (0 ∷ 1 ∷ 0 ∷ [])) room ∷ column (of_table 2) (Some (0 ∷ 1 ∷ 0 ∷ [])) room ∷ []

-- they are those of the law, and what each is lent is enough
abbrev pub RoomIsEnough : Type 0
RoomIsEnough = (reordered room kept.rows kept.columns ≡ again) × Enough room 3 kept

-- a new run with a row for each of the entries
abbrev pub start : State
start = begun_state 3 entries

-- under every state, that rows come again says so of these calls: by the ledger, each of them is accepted, and they come to it; and by the states of the run, each is accepted, and there are as many rows, of as many columns, each with the word that it had
abbrev pub KeptComesAgain : Type 0
KeptComesAgain =
    (ONE : List Write → ℕ) (SEED : ℕ → List Write → ℕ)
    → Reorders ONE SEED entries start kept (steps ONE SEED start calls)
    → (answers ONE SEED (begun entries) again ≡ accepted ∷ accepted ∷ accepted ∷ [])
    × (run (begun entries) again ≡ kept)
    × (replies ONE SEED start again ≡ accepted ∷ accepted ∷ accepted ∷ [])
    × ((steps ONE SEED start again).rows ≡ 3)
    × ((steps ONE SEED start again).count ≡ 2)
    × (map (slice_index (steps ONE SEED start again).words) (0 ∷ 1 ∷ 2 ∷ []) ≡ map (ledger.number ONE SEED) kept.rows)

-- under every state, that rows stay apart says so of rows 0 and 1, which began apart, and of rows 0 and 2, which did not
abbrev pub KeptApart : Type 0
KeptApart =
    (ONE : List Write → ℕ) (SEED : ℕ → List Write → ℕ)
    → StaysApart ONE SEED kept
    → (ledger.number ONE SEED (row 0 7) ≡ ledger.number ONE SEED (row 1 8) → ⊥)
    × (ledger.number ONE SEED (row_at kept.rows 0) ≡ ledger.number ONE SEED (row_at kept.rows 2))

-- the ledger and the state after the first of the calls
abbrev pub one_column : Ledger
one_column = run (begun entries) (take 1 calls)

abbrev pub after_one : (List Write → ℕ) → (ℕ → List Write → ℕ) → State
after_one ONE SEED = steps ONE SEED start (take 1 calls)

-- they agree, under every state
abbrev pub BegunAgrees : Type 0
BegunAgrees = (ONE : List Write → ℕ) (SEED : ℕ → List Write → ℕ) → Agrees ONE SEED one_column (after_one ONE SEED)

-- that a call follows each ledger that agrees says so of a read of row 1: it is answered by the row's number, with one column accepted, and the ledger stays
abbrev pub ReadFollows : Type 0
ReadFollows =
    (ONE : List Write → ℕ) (SEED : ℕ → List Write → ℕ) (reply : Reply) (end : State)
    → Follows ONE SEED (after_one ONE SEED) (read 1 3) reply end
    → (reply ≡ row_read (number_of ONE SEED true 8 (struct (number 1 5 ⨾ done))) 1) × Agrees ONE SEED one_column end

-- what lasts over the three calls says so after the first two and after all: their answers, the agreement, that the rows come again and that they stay apart
abbrev pub CallsLast : Type 0
CallsLast =
    (ONE : List Write → ℕ) (SEED : ℕ → List Write → ℕ) (replies : List Reply) (end : State)
    → Lasting ONE SEED entries start calls replies end
    → (take 3 replies ≡ accepted ∷ accepted ∷ accepted ∷ [])
    × Agrees ONE SEED (run (begun entries) (take 2 calls)) (steps ONE SEED start (take 2 calls))
    × (end ≡ steps ONE SEED start calls)
    × Reorders ONE SEED entries start kept (steps ONE SEED start calls)
    × StaysApart ONE SEED kept

-- that words stay says so of a column that is refused, over work that it was lent and that is not claimed
abbrev pub RefusedKeepsWork : Type 0
RefusedKeepsWork =
    (new : List ℕ)
    → OthersStay (opens (column (of_table 0) None room) (refused 16)) (10 ∷ 11 ∷ 12 ∷ 13 ∷ 14 ∷ []) new
    → (slice_index new 0 ≡ 10) × (slice_index new 2 ≡ 12) × (slice_index new 4 ≡ 14)
