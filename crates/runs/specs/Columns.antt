-- A column of an image, as a run meets it.
use Rattle.std.specs.Prelude.{ℕ, Bool, true, false, not, ◌&&◌, List, [], ◌∷◌, length, nat_lt, slice_index, Some, None, Option}
use Rattle.layout.specs.declared.data_type.DataType.{DataType}
use Rattle.layout.specs.declared.data_type.DataType.TheVariants.{Number, Float, View, Struct, List as ListOf, ListView, Map, FixedSizeList}
use Rattle.layout.specs.Records.{nodes, record_at}
use Rattle.image.specs.Read.{slot_at}
use Rattle.image.specs.Slot.{Slot}
use Rattle.columns.specs.Jobs.{need, type_of}

-- a node of an image's bytes
pub record Column : Type 0 where
  pub bytes : List ℕ
  pub node : ℕ

-- whether there is such a node
abbrev pub is_there : Column → Bool
is_there c = nat_lt c.node (nodes c.bytes)

-- its ROWS
abbrev pub height : Column → ℕ
height c = (record_at c.bytes c.node).rows

-- the slot at one of its rows
abbrev pub slot : Column → ℕ → Slot
slot c row = slot_at c.bytes c.node row

-- the words of work that it needs
abbrev pub column_need : Column → ℕ
column_need c = need c.bytes c.node

-- the column's row that row j meets: the one that a list names, or j
abbrev pub met_at : Option (List ℕ) → ℕ → ℕ
met_at None j = j
met_at (Some list) j = slice_index list j

-- how many rows meet one, of a column of so many rows
abbrev pub meeting_of : ℕ → Option (List ℕ) → ℕ
meeting_of rows None = rows
meeting_of rows (Some list) = length list

-- each number of a list is below a bound
abbrev pub all_below : ℕ → List ℕ → Bool
all_below bound [] = true
all_below bound (k ∷ list) = nat_lt k bound && all_below bound list

-- the same where there is a list
abbrev pub list_below : ℕ → Option (List ℕ) → Bool
list_below bound None = true
list_below bound (Some list) = all_below bound list

-- the types whose columns combine: the number tells the entry that it came from. Structs, lists, list views, maps and fixed-size lists always do, numbers, floats and views never; the rest do unless they are first
abbrev pub combining : Bool → DataType → Bool
combining first (Number w) = false
combining first (Float w) = false
combining first View = false
combining first Struct = true
combining first (ListOf w) = true
combining first (ListView w) = true
combining first Map = true
combining first (FixedSizeList p) = true
combining first rest = not first

-- a column combines as its type does
abbrev pub combines : Bool → Column → Bool
combines first c = combining first (type_of c.bytes c.node)
