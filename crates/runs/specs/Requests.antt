-- What a call of a run asks for, and what it is answered.
use Rattle.std.specs.Prelude.{ℕ, List, Option}
use Rattle.runs.specs.declared.call.Lent.{Lent}
use Rattle.runs.specs.Columns.{Column}

-- a column with a list of its rows or none; a keep of the rows that a list names; the number of a row, out of so many entries
pub data Request : Type 0 where
  column : Column → Option (List ℕ) → Lent → Request
  keep : List ℕ → Lent → Request
  read : ℕ → ℕ → Request

-- an accepted column or keep; a refusal by its number; of a read, the row's number and the count of accepted columns
pub data Reply : Type 0 where
  accepted : Reply
  refused : ℕ → Reply
  row_read : ℕ → ℕ → Reply
