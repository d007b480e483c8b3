-- What one check may count on since earlier ones have passed.
use Rattle.std.specs.Prelude.{◌≡◌, ℕ, zero, suc, ◌+◌, ◌*◌, ◌<◌, ◌≤◌, max, true, false, List, length, nat_lt, slice_index}
use Rattle.std.specs.Coded.{×_prop, Π_prop, Unit-prop, le_prop}
use Rattle.layout.specs.declared.bytes.Width.{Width}
use Rattle.layout.specs.declared.record.Record.{Record}
use Rattle.layout.specs.declared.data_type.DataType.{DataType}
use Rattle.layout.specs.declared.data_type.DataType.TheVariants.{View, Dictionary, Struct, List as ListOf, ListView, Map, FixedSizeList, RunEnd}
use Rattle.layout.specs.Bytes.{wide}
use Rattle.layout.specs.Nodes.{ChildThere, HoldsBit, child, marked}
use Rattle.layout.specs.Records.{nodes}
use Rattle.layout.specs.Views.{view_place, view_length, is_long, view_buffer, view_offset, buffer_place}
use Rattle.admission.specs.Rejections.{higher}

-- every record is there
abbrev pub Headed : List ℕ → Type 0
Headed bytes = 4 + 36 * nodes bytes ≤ length bytes

-- what TAB lists can be read: children with their records, or pairs
abbrev pub Linked : List ℕ → DataType → Record → Type 0
Linked bytes View r = (k : ℕ) → k < r.cnt → r.tab + 8 * k + 8 ≤ length bytes
Linked bytes (Dictionary w signed) r = ChildThere bytes r 0
Linked bytes Struct r = (k : ℕ) → k < r.cnt → ChildThere bytes r k
Linked bytes (ListOf w) r = ChildThere bytes r 0
Linked bytes (ListView w) r = ChildThere bytes r 0
Linked bytes Map r = ChildThere bytes r 0 × ChildThere bytes r 1
Linked bytes (FixedSizeList p) r = ChildThere bytes r 0
Linked bytes (RunEnd w) r = ChildThere bytes r 0
Linked bytes t r = Unit {0}

-- which has one proof at most, as a field that keeps it asks
pub Linked-prop : (bytes : List ℕ) (t : DataType) (r : Record) → IsProp (Linked bytes t r)
Linked-prop bytes View r = Π_prop (λ k. Π_prop (λ h. le_prop))
Linked-prop bytes (Dictionary w signed) r = ×_prop le_prop le_prop
Linked-prop bytes Struct r = Π_prop (λ k. Π_prop (λ h. ×_prop le_prop le_prop))
Linked-prop bytes (ListOf w) r = ×_prop le_prop le_prop
Linked-prop bytes (ListView w) r = ×_prop le_prop le_prop
Linked-prop bytes Map r = ×_prop (×_prop le_prop le_prop) (×_prop le_prop le_prop)
Linked-prop bytes (FixedSizeList p) r = ×_prop le_prop le_prop
Linked-prop bytes (RunEnd w) r = ×_prop le_prop le_prop
Linked-prop bytes t r = Unit-prop

-- element k of a buffer can be read
abbrev pub ElementThere : Width → List ℕ → ℕ → ℕ → Type 0
ElementThere w bytes place k = place + wide w * k + wide w ≤ length bytes

-- a view can be read, and where it is long and unmarked its pair and its bytes too
abbrev pub ViewThere : List ℕ → Record → ℕ → Type 0
ViewThere bytes r row =
    HoldsBit bytes r row
    × (view_place r row + 16 ≤ length bytes)
    × (marked bytes r row ≡ false → is_long bytes (view_place r row) ≡ true
    → (r.tab + 8 * view_buffer bytes (view_place r row) + 8 ≤ length bytes)
    × (buffer_place bytes r (view_buffer bytes (view_place r row)) + view_offset bytes (view_place r row) + view_length bytes (view_place r row) ≤ length bytes))

-- a number is the height of a node
abbrev pub HeightOf : List ℕ → ℕ → ℕ → Type 0
HeightOf bytes node height = (h : ℕ) → higher bytes h node ≡ nat_lt h height

-- the table of heights is right from a node on
abbrev pub Heights : List ℕ → ℕ → List ℕ → Type 0
Heights bytes from heights = (c : ℕ) → from ≤ c → c < nodes bytes → HeightOf bytes c (slice_index heights c)

-- the greatest of the heights of the children below k, as a table has them
abbrev pub highest : List ℕ → List ℕ → Record → ℕ → ℕ
highest bytes heights r zero = 0
highest bytes heights r (suc k) = max (highest bytes heights r k) (slice_index heights (child bytes r k))
