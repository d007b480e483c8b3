-- The first fault of an image: its number and its node.
use Rattle.std.specs.Prelude.{ℕ, zero, suc, ◌+◌, ◌*◌, Bool, true, false, cond, ◌||◌, List, [], ◌∷◌, length, Some, None, Ok, Err, Option, Result, ◌==◌, nat_lt}
use Rattle.layout.specs.declared.record.Record.{Record}
use Rattle.layout.specs.declared.data_type.DataType.{DataType}
use Rattle.layout.specs.Records.{nodes, record_at}
use Rattle.layout.specs.Types.{data_type}
use Rattle.layout.specs.Nodes.{table}
use Rattle.admission.specs.declared.fault.ImageFault.{ImageFault}
use Rattle.admission.specs.declared.fault.ImageFault.TheVariants.{Header, Kind, Length, Table, Child, Height, Buffer, Order, Reach, View}
use Rattle.admission.specs.Rejections.{too_long, bad_table, bad_child, too_high, bad_buffer, bad_order, out_of_reach, bad_views}

-- so many bytes are no image of so many nodes: under 4 bytes, under 4 + 36 for each node, over 1,073,741,824 bytes, or no 1 to 256 nodes
abbrev pub bad_size : ℕ → ℕ → Bool
bad_size len count =
    nat_lt len 4
    || (count == 0
    || (nat_lt 256 count || (nat_lt len (4 + 36 * count) || nat_lt 1073741824 len)))

-- 1: the bytes are no image of as many nodes as their count says
abbrev pub bad_header : List ℕ → Bool
bad_header bytes = bad_size (length bytes) (nodes bytes)

-- the first of 7 to 10 that applies to a node of a type
abbrev pub buffer_fault : List ℕ → DataType → Record → Option ℕ
buffer_fault bytes t r =
    cond (bad_buffer bytes t r) (Some 7)
    (cond (bad_order bytes t r) (Some 8)
    (cond (out_of_reach bytes t r) (Some 9)
    (cond (bad_views bytes t r) (Some 10) None)))

-- the first of 3 to 10 that applies to a node of a type
abbrev pub typed_fault : List ℕ → ℕ → DataType → Record → Option ℕ
typed_fault bytes node t r =
    cond (too_long r) (Some 3)
    (cond (bad_table (length bytes) (table t) r) (Some 4)
    (cond (bad_child bytes node (table t) r) (Some 5)
    (cond (too_high bytes node) (Some 6) (buffer_fault bytes t r))))

-- the first of 2 to 10 that applies to a node; 2: KIND, P, or B of a dictionary is not in the table of types
abbrev pub node_fault : List ℕ → ℕ → Option ℕ
node_fault bytes node =
    elim (data_type (record_at bytes node)) [ None ↦ Some 2 | Some t ↦ typed_fault bytes node t (record_at bytes node) ]

-- a number with its node, where there is one, else what follows
abbrev pub at_node : Option ℕ → ℕ → Option (ℕ × ℕ) → Option (ℕ × ℕ)
at_node None node next = next
at_node (Some number) node next = Some (number, node)

-- the first fault of the nodes below n, the last node first
abbrev pub fault_below : List ℕ → ℕ → Option (ℕ × ℕ)
fault_below bytes zero = None
fault_below bytes (suc n) = at_node (node_fault bytes n) n (fault_below bytes n)

-- the first fault of an image, 1 before all
abbrev pub first_fault : List ℕ → Option (ℕ × ℕ)
first_fault bytes = cond (bad_header bytes) (Some (1, 0)) (fault_below bytes (nodes bytes))

-- the number and the node of each fault that admission answers
abbrev pub numbered : ImageFault → ℕ × ℕ
numbered Header = (1, 0)
numbered (Kind node) = (2, node)
numbered (Length node) = (3, node)
numbered (Table node) = (4, node)
numbered (Child node) = (5, node)
numbered (Height node) = (6, node)
numbered (Buffer node) = (7, node)
numbered (Order node) = (8, node)
numbered (Reach node) = (9, node)
numbered (View node) = (10, node)

-- what an answer says: the fault's number and node, or none
abbrev pub fault_of : {A : Type 0} → Result A ImageFault → Option (ℕ × ℕ)
fault_of (Ok _) = None
fault_of (Err fault) = Some (numbered fault)

-- an image is sound where it has no fault; the empty image, of no bytes, is sound too
abbrev pub sound : List ℕ → Bool
sound [] = true
sound (b ∷ bytes) = elim (first_fault (b ∷ bytes)) [ None ↦ true | Some _ ↦ false ]
