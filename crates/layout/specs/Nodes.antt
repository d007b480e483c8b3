-- What a node's record points to: children, bitmaps, elements.
use Rattle.std.specs.Prelude.{◌≡◌, ℕ, zero, suc, ◌+◌, ◌*◌, ◌/◌, ◌<◌, ◌≤◌, Bool, true, false, not, ◌&&◌, ◌||◌, List, length, Some, None, Option, ◌==◌}
use Rattle.layout.specs.declared.bytes.Width.{Width}
use Rattle.layout.specs.declared.record.Record.{Record}
use Rattle.layout.specs.declared.data_type.DataType.{DataType}
use Rattle.layout.specs.declared.data_type.DataType.TheVariants.{Null, View, Dictionary, Struct, List as ListOf, ListView, Map, FixedSizeList, RunEnd}
use Rattle.layout.specs.declared.data_type.Table.{Table}
use Rattle.layout.specs.declared.data_type.Table.TheVariants.{Unread, Children, Pairs}
use Rattle.layout.specs.Bytes.{field, bit, wide}
use Rattle.layout.specs.Records.{record_at}

-- some number below n passes a test
abbrev pub some_below : ℕ → (ℕ → Bool) → Bool
some_below zero test = false
some_below (suc n) test = test n || some_below n test

-- what TAB lists, and how many entries it may have
abbrev pub table : DataType → Table
table View = Pairs 65535
table (Dictionary w signed) = Children 1 1
table Struct = Children 0 255
table (ListOf w) = Children 1 1
table (ListView w) = Children 1 1
table Map = Children 2 2
table (FixedSizeList p) = Children 1 1
table (RunEnd w) = Children 1 1
table t = Unread

-- how many of the entries of TAB are children
abbrev pub listed : Table → ℕ → ℕ
listed (Children least most) count = count
listed t count = 0

-- how many children a node has, none where it has no type
abbrev pub child_count : Option DataType → Record → ℕ
child_count None r = 0
child_count (Some t) r = listed (table t) r.cnt

-- the node number of a child
abbrev pub child : List ℕ → Record → ℕ → ℕ
child bytes r k = field 4 bytes (r.tab + 4 * k)

-- how many rows a child has
abbrev pub child_rows : List ℕ → Record → ℕ → ℕ
child_rows bytes r k = (record_at bytes (child bytes r k)).rows

-- a child's number and its record can be read
abbrev pub ChildThere : List ℕ → Record → ℕ → Type 0
ChildThere bytes r k = (r.tab + 4 * k + 4 ≤ length bytes) × (4 + 36 * child bytes r k + 36 ≤ length bytes)

-- whether NULLS is read, and stands for a bitmap where it is not 0
abbrev pub reads_nulls : DataType → Bool
reads_nulls Null = false
reads_nulls (RunEnd w) = false
reads_nulls t = true

-- a row is marked null where its bit in the validity bitmap is 0; without a bitmap no row is
abbrev pub marked : List ℕ → Record → ℕ → Bool
marked bytes r row = not (r.nulls == 0) && not (bit bytes r.nulls (r.start + row))

-- the same of a row of any node: where the type is not there or has no bitmap, none is
abbrev pub typed_mark : Option DataType → List ℕ → Record → ℕ → Bool
typed_mark None bytes r row = false
typed_mark (Some t) bytes r row = reads_nulls t && marked bytes r row

-- the bitmap, if there is one, holds the bit of a row
abbrev pub HoldsBit : List ℕ → Record → ℕ → Type 0
HoldsBit bytes r row = (r.nulls == 0) ≡ false → r.nulls + (r.start + row) / 8 < length bytes

-- how many bytes a bitmap of so many bits has
abbrev pub bitmap_bytes : ℕ → ℕ
bitmap_bytes bits = (bits + 7) / 8

-- an element of a buffer of numbers of one width
abbrev pub element : Width → List ℕ → ℕ → ℕ → ℕ
element w bytes place k = field (wide w) bytes (place + wide w * k)
