-- Slots, read off the bytes of an image.
use Rattle.std.specs.Prelude.{ℕ, zero, suc, ◌+◌, ◌-◌, ◌*◌, Bool, cond, ◌&&◌, List, map, take, drop, Some, None, nat_lt}
use Rattle.std.specs.List.{range_with_len}
use Rattle.layout.specs.declared.bytes.Width.{Width}
use Rattle.layout.specs.declared.bytes.Width.TheVariants.{Four}
use Rattle.layout.specs.declared.record.Record.{Record}
use Rattle.layout.specs.declared.data_type.DataType.{DataType}
use Rattle.layout.specs.declared.data_type.DataType.TheVariants.{Null, Boolean, Number, Float, Utf8, Binary, FixedSizeBinary, View, Dictionary, Struct, List as ListOf, ListView, Map, FixedSizeList, RunEnd}
use Rattle.layout.specs.Bytes.{bit, wide}
use Rattle.layout.specs.Nodes.{child, child_rows, element, marked, reads_nulls}
use Rattle.layout.specs.Records.{record_at}
use Rattle.layout.specs.Types.{data_type}
use Rattle.layout.specs.Views.{buffer_place, is_long, view_buffer, view_length, view_offset, view_place}
use Rattle.image.specs.Slot.{Slot, null, nothing, boolean, number, float, text, binary, view, refer, struct, sequence, entries, slots, paired}

-- so many bytes from a place on
abbrev pub part : List ℕ → ℕ → ℕ → List ℕ
part bytes place size = take size (drop place bytes)

-- an offset of a node
abbrev pub offset : Width → List ℕ → Record → ℕ → ℕ
offset w bytes r k = element w bytes r.a k

-- how far it is from an offset to the next
abbrev pub span : Width → List ℕ → Record → ℕ → ℕ
span w bytes r k = offset w bytes r (k + 1) - offset w bytes r k

-- where the bytes of an element begin, of a type with offsets
abbrev pub span_place : Width → List ℕ → Record → ℕ → ℕ
span_place w bytes r at = r.b + offset w bytes r at

-- the bytes of an element, from its offset to the next
abbrev pub span_bytes : Width → List ℕ → Record → ℕ → List ℕ
span_bytes w bytes r at = part bytes (span_place w bytes r at) (span w bytes r at)

-- where the bytes of a view stand: in the view itself, or in a data buffer
abbrev pub view_bytes_place : List ℕ → Record → ℕ → ℕ
view_bytes_place bytes r v =
    cond (is_long bytes v) (buffer_place bytes r (view_buffer bytes v) + view_offset bytes v) (v + 4)

-- the bytes that a view stands for
abbrev pub view_bytes : List ℕ → Record → ℕ → List ℕ
view_bytes bytes r v = part bytes (view_bytes_place bytes r v) (view_length bytes v)

-- the first number that passes a test, n if none below n does
abbrev pub first_below : ℕ → (ℕ → Bool) → ℕ
first_below zero test = 0
first_below (suc n) test = cond (test 0) 0 (suc (first_below n (λ k. test (suc k))))

-- the run of an element: the first whose end is above it
abbrev pub run_of : Width → List ℕ → Record → ℕ → ℕ
run_of w bytes r at = first_below (child_rows bytes r 0) (λ k. nat_lt at (element w bytes r.a k))

-- the slots of one child at rows one after the other
abbrev pub sequence_of : (ℕ → Slot) → ℕ → ℕ → Slot
sequence_of slot from count = sequence (slots (map slot (range_with_len from count)))

-- the slot of an unmarked row, by its type; `at` is its element, `down` the slots of other nodes
abbrev pub unmarked : DataType → List ℕ → Record → (ℕ → ℕ → Slot) → ℕ → ℕ → Slot
unmarked Null bytes r down row at = nothing
unmarked Boolean bytes r down row at = boolean (bit bytes r.a at)
unmarked (Number w) bytes r down row at = number (wide w) (element w bytes r.a at)
unmarked (Float w) bytes r down row at = float (wide w) (element w bytes r.a at)
unmarked (Utf8 w) bytes r down row at = text (span_bytes w bytes r at)
unmarked (Binary w) bytes r down row at = binary (span_bytes w bytes r at)
unmarked (FixedSizeBinary p) bytes r down row at = binary (part bytes (r.a + p * at) p)
unmarked View bytes r down row at = view (view_bytes bytes r (view_place r row))
unmarked (Dictionary w signed) bytes r down row at = refer (down (child bytes r 0) (element w bytes r.a at))
unmarked Struct bytes r down row at = struct (slots (map (λ k. down (child bytes r k) at) (range_with_len 0 r.cnt)))
unmarked (ListOf w) bytes r down row at = sequence_of (down (child bytes r 0)) (offset w bytes r at) (span w bytes r at)
unmarked (ListView w) bytes r down row at = sequence_of (down (child bytes r 0)) (element w bytes r.a at) (element w bytes r.b at)
unmarked Map bytes r down row at = entries (paired (down (child bytes r 0)) (down (child bytes r 1)) (range_with_len (offset Four bytes r at) (span Four bytes r at)))
unmarked (FixedSizeList p) bytes r down row at = sequence_of (down (child bytes r 0)) (p * at) p
unmarked (RunEnd w) bytes r down row at = refer (down (child bytes r 0) (run_of w bytes r at))

-- the slot of a row: null where it is marked so, else by its type
abbrev pub typed_slot : DataType → List ℕ → Record → (ℕ → ℕ → Slot) → ℕ → Slot
typed_slot t bytes r down row = cond (reads_nulls t && marked bytes r row) null (unmarked t bytes r down row (r.start + row))

-- the slot of a node's row, going down at most so many nodes
abbrev pub slot_within : ℕ → List ℕ → ℕ → ℕ → Slot
slot_within zero bytes node row = null
slot_within (suc levels) bytes node row =
    elim (data_type (record_at bytes node)) [ None ↦ null | Some t ↦ typed_slot t bytes (record_at bytes node) (slot_within levels bytes) row ]

-- the slot of a node's row: no node of an image is higher than 16
abbrev pub slot_at : List ℕ → ℕ → ℕ → Slot
slot_at bytes node row = slot_within 16 bytes node row
