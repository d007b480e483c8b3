-- The rows of a leaf, and the words that they make.
use Rattle.std.specs.Prelude.{◌≡◌, ℕ, ◌+◌, Bool, true, false, List, [], ◌∷◌, length, Some, None, Option, slice_index}
use Rattle.std.specs.Borrow.{Bor}
use Rattle.layout.specs.declared.column.Column.{Column}
use Rattle.layout.specs.declared.record.Record.{Record}
use Rattle.layout.specs.declared.data_type.DataType.{DataType}
use Rattle.layout.specs.declared.data_type.DataType.TheVariants.{View, Dictionary, Struct, List as ListOf, ListView, Map, FixedSizeList, RunEnd}
use Rattle.layout.specs.Nodes.{HoldsBit, reads_nulls}
use Rattle.layout.specs.Views.{view_place}
use Rattle.admission.specs.Rejections.{bad_view}
use Rattle.image.specs.Read.{typed_slot, unmarked}
use Rattle.image.specs.Seams.{Readable}
use Rattle.image.specs.Slot.{Slot}
use Rattle.leaves.specs.declared.rows.Rows.{Rows}

-- the slot of an unmarked row of a column
abbrev pub unmarked_slot : Column → DataType → (ℕ → ℕ → Slot) → ℕ → Slot
unmarked_slot column t down row = unmarked t column.bytes.now column.record down row (column.record.start + row)

-- the slot of a row of a column
abbrev pub column_slot : Column → DataType → (ℕ → ℕ → Slot) → ℕ → Slot
column_slot column t down row = typed_slot t column.bytes.now column.record down row

-- each word by its place, counted from k
abbrev pub by_place : (ℕ → ℕ → ℕ) → ℕ → List ℕ → List ℕ
by_place f k [] = []
by_place f k (e ∷ es) = f k e ∷ by_place f (k + 1) es

-- a type whose slots stand for no other slots
abbrev pub is_leaf : DataType → Bool
is_leaf (Dictionary w signed) = false
is_leaf Struct = false
is_leaf (ListOf w) = false
is_leaf (ListView w) = false
is_leaf Map = false
is_leaf (FixedSizeList p) = false
is_leaf (RunEnd w) = false
is_leaf t = true

-- the row that word j meets: the one that a list names, or row lo + j
abbrev pub row_of : ℕ → Option (Bor (List ℕ)) → ℕ → ℕ
row_of lo None j = lo + j
row_of lo (Some list) j = slice_index list.now j

-- each word becomes its number at the slot of the row that it meets
abbrev pub leaf_words : (ℕ → Slot → ℕ) → (ℕ → Slot) → Rows → List ℕ → List ℕ
leaf_words number slot rows words = by_place (λ j e. number e (slot (row_of rows.lo rows.list j))) 0 words

-- a list, if there is one, has a row for each of n words
abbrev pub RowsFor : Option (Bor (List ℕ)) → ℕ → Type 0
RowsFor None n = Unit {0}
RowsFor (Some list) n = length list.now ≡ n

-- an unmarked view is padded with zeros, or begins with the first of its bytes
abbrev pub Padded : DataType → List ℕ → Record → ℕ → Type 0
Padded View bytes r row = bad_view bytes r row (view_place r row) ≡ false
Padded t bytes r row = Unit {0}

-- what can be read of a row
abbrev pub LeafRow : List ℕ → DataType → Record → ℕ → Type 0
LeafRow bytes t r row = (reads_nulls t ≡ true → HoldsBit bytes r row) × Readable t bytes r row × Padded t bytes r row
