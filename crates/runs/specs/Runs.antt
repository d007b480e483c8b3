-- What a run with its entries stands for, and what an answer says.
use Rattle.std.specs.Prelude.{ℕ, List, length, Result, Ok, Err, Some, None, Option}
use Rattle.std.specs.Borrow.{Bor}
use Rattle.columns.specs.declared.selection.Selection.{Selection}
use Rattle.runs.specs.declared.account.WorkAccount.{WorkAccount}
use Rattle.runs.specs.declared.call.Lent.{Lent}
use Rattle.runs.specs.declared.fault.RunFault.{RunFault}
use Rattle.runs.specs.declared.fault.RunFault.TheVariants.{Entries, Columns, Node, Length, Listed, Work, Row}
use Rattle.runs.specs.declared.run.BegunRun.{BegunRun}
use Rattle.runs.specs.declared.run.NewRun.{NewRun}
use Rattle.runs.specs.declared.run.RowRead.{RowRead}
use Rattle.runs.specs.declared.run.Shape.{Shape}
use Rattle.runs.specs.Columns.{Column}
use Rattle.runs.specs.Requests.{Request, Reply, column, accepted, refused, row_read}
use Rattle.runs.specs.State.{State}

-- the numbers of the refusals
abbrev pub fault_number : RunFault → ℕ
fault_number Entries = 11
fault_number Columns = 12
fault_number Node = 13
fault_number Length = 14
fault_number Listed = 15
fault_number Work = 16
fault_number Row = 17

-- the number of the refusal, or none
abbrev pub fault_of : {T : Type 0} → Result T RunFault → Option ℕ
fault_of (Ok _) = None
fault_of (Err fault) = Some (fault_number fault)

-- a run of so many rows and columns, with the entries that it is lent
abbrev pub shape_run : Shape → List ℕ → State
shape_run run words = record { count = run.count; rows = run.rows; words = words }

-- a new run with the entries that it is lent
abbrev pub new_run : NewRun → List ℕ → State
new_run run words = record { count = 0; rows = run.rows; words = words }

-- a begun run with the entries that it is lent
abbrev pub begun_run : BegunRun → List ℕ → State
begun_run run words = record { count = run.count; rows = run.rows; words = words }

-- a first column gives a begun run, or the new run back
abbrev pub either_run : Result BegunRun (NewRun × RunFault) → List ℕ → State
either_run (Ok run) words = begun_run run words
either_run (Err back) words = new_run back.0 words

-- what it answers to a first column
abbrev pub either_reply : Result BegunRun (NewRun × RunFault) → Reply
either_reply (Ok run) = accepted
either_reply (Err back) = refused (fault_number back.1)

-- what a call answers that gives nothing else
abbrev pub done_reply : {T : Type 0} → Result T RunFault → Reply
done_reply (Ok _) = accepted
done_reply (Err fault) = refused (fault_number fault)

-- what a read answers
abbrev pub row_reply : Result RowRead RunFault → Reply
row_reply (Ok read) = row_read read.number read.count
row_reply (Err fault) = refused (fault_number fault)

-- the node of a selection
abbrev pub column_of : Selection → Column
column_of selection = record { bytes = selection.image.now.bytes.now; node = selection.node }

-- the numbers of a list that a caller lends, if there is one
abbrev pub list_of : Option (Bor (List ℕ)) → Option (List ℕ)
list_of None = None
list_of (Some list) = Some list.now

-- what a call is lent, by the entries and the work that it is given, and the work's account
abbrev pub lent : List ℕ → List ℕ → WorkAccount → Lent
lent entries work account = record { entries = length entries; work = length work; claimed = account.claimed }

-- what is asked for by a column of these rows, over what it is lent
abbrev pub selects : Selection → Lent → Request
selects selection lent = column (column_of selection) (list_of selection.list) lent

-- the same of the entries and the work that a call is given, and the work's account
abbrev pub asked : Selection → List ℕ → List ℕ → WorkAccount → Request
asked selection entries work account = selects selection (lent entries work account)
