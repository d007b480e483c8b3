-- What the slot reader hands out of a slot.
use Rattle.std.specs.Prelude.{ℕ, ◌+◌, ◌*◌, Bool, cond, List, Some, None, Ok, Err, Option, Result, nat_lt}
use Rattle.layout.specs.declared.record.Record.{Record}
use Rattle.layout.specs.declared.data_type.DataType.{DataType}
use Rattle.layout.specs.declared.data_type.DataType.TheVariants.{Utf8, Binary, FixedSizeBinary, View}
use Rattle.layout.specs.Bytes.{wide}
use Rattle.layout.specs.Nodes.{child, child_count}
use Rattle.layout.specs.Records.{nodes, record_at}
use Rattle.layout.specs.Types.{data_type, kind_number, kind_of}
use Rattle.layout.specs.Views.{view_place}
use Rattle.image.specs.declared.value.SlotValue.{SlotValue}
use Rattle.image.specs.declared.value.SlotValue.TheVariants as variant
use Rattle.image.specs.declared.value.SlotFault.{SlotFault}
use Rattle.image.specs.declared.value.SlotFault.TheVariants.{NoNode, NoRow}
use Rattle.image.specs.Read.{slot_at, span_place, view_bytes_place}
use Rattle.image.specs.Slot.{Slot, null, boolean, number, float, text, binary, view}

-- a slot as it is handed out: values, bytes with their place, or the KIND alone
pub data Value : Type 0 where
  null_mark : Value
  a_boolean : Bool → Value
  a_number : ℕ → ℕ → Value
  a_float : ℕ → ℕ → Value
  a_text : ℕ → List ℕ → Value
  a_binary : ℕ → List ℕ → Value
  a_view : ℕ → List ℕ → Value
  kind_alone : ℕ → Value

-- what is handed out of a slot of a node of a KIND; its bytes, if it has any, stand at a place
abbrev pub handed_out : ℕ → ℕ → Slot → Value
handed_out kind place null = null_mark
handed_out kind place (boolean b) = a_boolean b
handed_out kind place (number w n) = a_number w n
handed_out kind place (float w n) = a_float w n
handed_out kind place (text bytes) = a_text place bytes
handed_out kind place (binary bytes) = a_binary place bytes
handed_out kind place (view bytes) = a_view place bytes
handed_out kind place s = kind_alone kind

-- where the bytes of a row stand, of a type that has bytes
abbrev pub bytes_place : DataType → List ℕ → Record → ℕ → ℕ
bytes_place (Utf8 w) bytes r row = span_place w bytes r (r.start + row)
bytes_place (Binary w) bytes r row = span_place w bytes r (r.start + row)
bytes_place (FixedSizeBinary p) bytes r row = r.a + p * (r.start + row)
bytes_place View bytes r row = view_bytes_place bytes r (view_place r row)
bytes_place t bytes r row = 0

-- the same of a slot at a row of a node of a type
abbrev pub typed_value : DataType → List ℕ → Record → ℕ → Slot → Value
typed_value t bytes r row slot = handed_out (kind_number (kind_of t)) (bytes_place t bytes r row) slot

-- what is handed out of a row of a node
abbrev pub value_at : List ℕ → ℕ → ℕ → Value
value_at bytes node row =
    elim (data_type (record_at bytes node)) [
      | None ↦ null_mark
      | Some t ↦ handed_out (record_at bytes node).kind (bytes_place t bytes (record_at bytes node) row) (slot_at bytes node row)
    ]

-- the slot reader's answer: 13 where there is no such node, 17 where there is no such row
abbrev pub value_answer : List ℕ → ℕ → ℕ → Result Value ℕ
value_answer bytes node row =
    cond (nat_lt node (nodes bytes)) (cond (nat_lt row (record_at bytes node).rows) (Ok (value_at bytes node row)) (Err 17)) (Err 13)

-- the record of a node, where there is such a node
abbrev pub node_record : List ℕ → ℕ → Option Record
node_record bytes node = cond (nat_lt node (nodes bytes)) (Some (record_at bytes node)) None

-- the node number of a child, where there is a record and it has such a child
abbrev pub child_of : List ℕ → Option Record → ℕ → Option ℕ
child_of bytes None index = None
child_of bytes (Some r) index = cond (nat_lt index (child_count (data_type r) r)) (Some (child bytes r index)) None

-- the node number of a node's child, where there are such a node and such a child
abbrev pub node_child : List ℕ → ℕ → ℕ → Option ℕ
node_child bytes node index = child_of bytes (node_record bytes node) index

-- what a value says that the slot reader hands out
abbrev pub told : SlotValue → Value
told variant.Null = null_mark
told (variant.Boolean b) = a_boolean b
told (variant.Number w n) = a_number (wide w) n
told (variant.Float w n) = a_float (wide w) n
told (variant.Text part) = a_text part.place part.bytes.now
told (variant.Binary part) = a_binary part.place part.bytes.now
told (variant.View part) = a_view part.place part.bytes.now
told (variant.Kind k) = kind_alone (kind_number k)

-- the number of each refusal
abbrev pub refusal : SlotFault → ℕ
refusal NoNode = 13
refusal NoRow = 17

-- what an answer of the slot reader says
abbrev pub answered : Result SlotValue SlotFault → Result Value ℕ
answered (Ok value) = Ok (told value)
answered (Err fault) = Err (refusal fault)
