-- Numbers, bits, records and views as they stand in bytes, as docs/FORMAT.md says.
use Rattle.std.specs.Prelude.{◌≡◌, ℕ, true, false, List, [], ◌∷◌, ◌++◌, map, Some, None}
use Rattle.layout.specs.declared.bytes.Width.TheVariants.{One, Two, Four, Eight}
use Rattle.layout.specs.declared.data_type.DataType.TheVariants.{Boolean, RunEnd}
use Rattle.layout.specs.Bytes.{bit, field}
use Rattle.layout.specs.Nodes.{child, child_rows, element, marked, typed_mark}
use Rattle.layout.specs.Records.{elements, nodes, record_at}
use Rattle.layout.specs.Views.{buffer_length, buffer_place, is_long, view_buffer, view_length, view_offset, view_place, view_prefix}
use Rattle.tables.specs.Images.{image, little, plain}

-- numbers of 1, 2, 4 and 8 bytes from place 1 on, the lowest byte first
abbrev pub Fields : Type 0
Fields =
    map (λ w. field w (0xff ∷ 1 ∷ 2 ∷ 3 ∷ 4 ∷ 5 ∷ 6 ∷ 7 ∷ 8 ∷ 0xff ∷ []) 1) (1 ∷ 2 ∷ 4 ∷ 8 ∷ [])
    ≡ (0x01 ∷ 0x0201 ∷ 0x0403_0201 ∷ 0x0807_0605_0403_0201 ∷ [])

-- bits 0, 1, 7, 8, 9 and 15 of a bitmap at place 1 whose bytes are 0x01 and 0x82: the lowest of a byte comes first
abbrev pub Bits : Type 0
Bits = map (bit (0xff ∷ 0x01 ∷ 0x82 ∷ []) 1) (0 ∷ 1 ∷ 7 ∷ 8 ∷ 9 ∷ 15 ∷ []) ≡ (true ∷ false ∷ false ∷ false ∷ true ∷ true ∷ [])

-- two nodes, each number of a record another
abbrev pub two_nodes : List ℕ
two_nodes =
    image
    (record { kind = 1; rows = 2; start = 3; nulls = 4; a = 5; b = 6; p = 7; tab = 8; cnt = 9 }
    ∷ record { kind = 11; rows = 12; start = 13; nulls = 14; a = 15; b = 16; p = 17; tab = 18; cnt = 19 }
    ∷ [])
    []

-- the records of both nodes
abbrev pub Records : Type 0
Records =
    map (record_at two_nodes) (0 ∷ 1 ∷ [])
    ≡ (record { kind = 1; rows = 2; start = 3; nulls = 4; a = 5; b = 6; p = 7; tab = 8; cnt = 9 }
    ∷ record { kind = 11; rows = 12; start = 13; nulls = 14; a = 15; b = 16; p = 17; tab = 18; cnt = 19 }
    ∷ [])

-- how many nodes there are, and how many elements the second has: START and ROWS together
abbrev pub Counts : Type 0
Counts = (nodes two_nodes ∷ elements (record_at two_nodes 1) ∷ []) ≡ (2 ∷ 25 ∷ [])

-- rows 0 to 3 with START 2 and a bitmap of the bits 0, 1, 0, 1, 0, 1 at place 1, and without a bitmap: a row is marked null where its bit is 0
abbrev pub Marks : Type 0
Marks =
    map (λ nulls. map (marked (0xff ∷ 0x2a ∷ []) (record (plain 2) { start = 2; nulls = nulls })) (0 ∷ 1 ∷ 2 ∷ 3 ∷ [])) (1 ∷ 0 ∷ [])
    ≡ ((true ∷ false ∷ true ∷ false ∷ []) ∷ (false ∷ false ∷ false ∷ false ∷ []) ∷ [])

-- the same of a Boolean column, of a run-end column, which has no bitmap, and of a node without a type
abbrev pub TypedMarks : Type 0
TypedMarks =
    map (λ t. typed_mark t (0xff ∷ 0 ∷ []) (record (plain 2) { nulls = 1 }) 0) (Some Boolean ∷ Some (RunEnd Two) ∷ None ∷ [])
    ≡ (true ∷ false ∷ false ∷ [])

-- element 1 of a buffer at place 1, by width
abbrev pub Elements : Type 0
Elements =
    map (λ w. element w (0xff ∷ little 4 0x0403_0201 ++ (little 4 0x0807_0605 ++ (little 8 0x1817_1615_1413_1211))) 1 1) (One ∷ Two ∷ Four ∷ Eight ∷ [])
    ≡ (0x02 ∷ 0x0403 ∷ 0x0807_0605 ∷ 0x1817_1615_1413_1211 ∷ [])

-- a table of two children at place 76: nodes 0 and 1, which have 2 and 12 rows
abbrev pub tabled : List ℕ
tabled = two_nodes ++ (little 4 0 ++ little 4 1)

-- both children, and how many rows they have
abbrev pub ChildRows : Type 0
ChildRows =
    (map (child tabled (record (plain 11) { tab = 76; cnt = 2 })) (0 ∷ 1 ∷ []) ∷ map (child_rows tabled (record (plain 11) { tab = 76; cnt = 2 })) (0 ∷ 1 ∷ []) ∷ [])
    ≡ ((0 ∷ 1 ∷ []) ∷ (2 ∷ 12 ∷ []) ∷ [])

-- a view of 13 bytes: its length, then the first four of its bytes, the number of its data buffer and its offset
abbrev pub view_of_13 : List ℕ
view_of_13 = little 4 13 ++ (little 4 0x6463_6261 ++ (little 4 2 ++ little 4 5))

-- the parts of a view, where the second row's stands with START 1, and the place and the length of the second data buffer by a table at place 16
abbrev pub ViewParts : Type 0
ViewParts =
    (view_length view_of_13 0 ∷ view_prefix view_of_13 0 ∷ view_buffer view_of_13 0 ∷ view_offset view_of_13 0
    ∷ view_place (record (plain 9) { a = 100; start = 1 }) 1
    ∷ buffer_place (view_of_13 ++ (little 8 0 ++ (little 4 90 ++ little 4 30))) (record (plain 9) { tab = 16; cnt = 2 }) 1
    ∷ buffer_length (view_of_13 ++ (little 8 0 ++ (little 4 90 ++ little 4 30))) (record (plain 9) { tab = 16; cnt = 2 }) 1
    ∷ [])
    ≡ (13 ∷ 0x6463_6261 ∷ 2 ∷ 5 ∷ 132 ∷ 90 ∷ 30 ∷ [])

-- a view of 12 bytes is not long, one of 13 is
abbrev pub LongViews : Type 0
LongViews = map (λ n. is_long (little 4 n) 0) (0 ∷ 12 ∷ 13 ∷ []) ≡ (false ∷ false ∷ true ∷ [])
