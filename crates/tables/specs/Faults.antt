-- Refusals 1 to 6, and the order of all ten, as docs/FORMAT.md lists them.
use Rattle.std.specs.Prelude.{◌≡◌, ℕ, ◌+◌, ◌-◌, ◌*◌, true, false, List, [], ◌∷◌, ◌++◌, map, replicate, Some, None}
use Rattle.std.specs.List.{range_with_len}
use Rattle.layout.specs.declared.record.Record.{Record}
use Rattle.layout.specs.declared.data_type.Table.TheVariants.{Children, Pairs}
use Rattle.layout.specs.Nodes.{table}
use Rattle.admission.specs.FirstFault.{bad_size, first_fault, numbered}
use Rattle.admission.specs.declared.fault.ImageFault.TheVariants.{Header, Kind, Length, Table, Child, Height, Buffer, Order, Reach, View}
use Rattle.admission.specs.Rejections.{bad_child, bad_table, too_high, too_long}
use Rattle.tables.specs.Images.{image, little, plain, structs, words}
use Rattle.tables.specs.Types.{types}

-- 1: 3 bytes and 4; 0, 1, 256 and 257 nodes in an image of 1,048,576 bytes; 39 bytes and 40 of one node, 9,219 and 9,220 of 256; 1,073,741,824 bytes and one more
abbrev pub ImageSizes : Type 0
ImageSizes =
    (map (λ len. bad_size len 0) (3 ∷ 4 ∷ [])
    ∷ map (bad_size 1048576) (0 ∷ 1 ∷ 256 ∷ 257 ∷ [])
    ∷ map (λ len. bad_size len 1) (3 ∷ 4 ∷ 39 ∷ 40 ∷ 65576 ∷ 1073741824 ∷ 1073741825 ∷ [])
    ∷ map (λ len. bad_size len 256) (9219 ∷ 9220 ∷ 1073741824 ∷ 1073741825 ∷ [])
    ∷ [])
    ≡ ((true ∷ true ∷ [])
    ∷ (true ∷ false ∷ false ∷ true ∷ [])
    ∷ (true ∷ true ∷ true ∷ false ∷ false ∷ false ∷ true ∷ [])
    ∷ (true ∷ false ∷ false ∷ true ∷ [])
    ∷ [])

-- 3: ROWS, then START, at 1,048,576 and one more; each is held to it, not their sum
abbrev pub Lengths : Type 0
Lengths =
    map too_long
    (record (plain 1) { rows = 1048576; start = 1048576 }
    ∷ record (plain 1) { rows = 1048577 }
    ∷ record (plain 1) { start = 1048577 }
    ∷ [])
    ≡ (false ∷ true ∷ true ∷ [])

-- 4: each type with 0, 1, 2, 3, 255, 256, 65,535 and 65,536 entries; kinds 1 to 8 have no table, views have up to 65,535 data buffers, structs up to 255 children, maps two, and the others one
abbrev pub Entries : Type 0
Entries =
    map (λ t. map (λ n. bad_table 1000000 (table t) (record (plain 0) { cnt = n })) (0 ∷ 1 ∷ 2 ∷ 3 ∷ 255 ∷ 256 ∷ 65535 ∷ 65536 ∷ [])) types
    ≡ replicate 7 (replicate 8 false)
    ++ ((false ∷ false ∷ false ∷ false ∷ false ∷ false ∷ false ∷ true ∷ [])
    ∷ (true ∷ false ∷ true ∷ true ∷ true ∷ true ∷ true ∷ true ∷ [])
    ∷ (false ∷ false ∷ false ∷ false ∷ false ∷ true ∷ true ∷ true ∷ [])
    ∷ (true ∷ false ∷ true ∷ true ∷ true ∷ true ∷ true ∷ true ∷ [])
    ∷ (true ∷ false ∷ true ∷ true ∷ true ∷ true ∷ true ∷ true ∷ [])
    ∷ (true ∷ true ∷ false ∷ true ∷ true ∷ true ∷ true ∷ true ∷ [])
    ∷ (true ∷ false ∷ true ∷ true ∷ true ∷ true ∷ true ∷ true ∷ [])
    ∷ (true ∷ false ∷ true ∷ true ∷ true ∷ true ∷ true ∷ true ∷ [])
    ∷ [])

-- 4: two children, then two pairs, at place 40 of an image that ends with them and of one that is a byte shorter; and no child, at the end and one behind it
abbrev pub Borders : Type 0
Borders =
    (bad_table 48 (Children 2 2) (record (plain 0) { tab = 40; cnt = 2 })
    ∷ bad_table 47 (Children 2 2) (record (plain 0) { tab = 40; cnt = 2 })
    ∷ bad_table 56 (Pairs 65535) (record (plain 0) { tab = 40; cnt = 2 })
    ∷ bad_table 55 (Pairs 65535) (record (plain 0) { tab = 40; cnt = 2 })
    ∷ bad_table 40 (Children 0 255) (record (plain 0) { tab = 40; cnt = 0 })
    ∷ bad_table 40 (Children 0 255) (record (plain 0) { tab = 41; cnt = 0 })
    ∷ [])
    ≡ (false ∷ true ∷ false ∷ true ∷ false ∷ true ∷ [])

-- 5: node 1 of three, whose child is node 0, itself, node 2 or a node 3, which there is not
abbrev pub ChildNumbers : Type 0
ChildNumbers =
    map (λ c. bad_child (image (replicate 3 (plain 1)) (little 4 c)) 1 (Children 1 1) (record (plain 11) { tab = 112; cnt = 1 })) (0 ∷ 1 ∷ 2 ∷ 3 ∷ [])
    ≡ (true ∷ true ∷ false ∷ true ∷ [])

-- an image of so many structs, each the parent of the one after it
abbrev pub chain : ℕ → List ℕ
chain n = image (structs (4 + 36 * n) n) (words (range_with_len 1 (n - 1)))

-- 6: node 0 of 1, 16 and 17 structs
abbrev pub Heights : Type 0
Heights = map (λ n. too_high (chain n) 0) (1 ∷ 16 ∷ 17 ∷ []) ≡ (false ∷ false ∷ true ∷ [])

-- an image of a struct with two children, over 16 structs each the parent of the one after it: a child that is given, and node 1, whose height is 16
abbrev pub over_sixteen : Record → ℕ → List ℕ
over_sixteen top child = image (record top { tab = 676; cnt = 2 } ∷ structs 616 16) (words (range_with_len 2 15) ++ words (child ∷ 1 ∷ []))

-- a view of 1 byte, and a view of 13 bytes
abbrev pub short : ℕ → List ℕ
short behind = little 4 1 ++ (97 ∷ behind ∷ replicate 10 0)

abbrev pub long : ℕ → ℕ → List ℕ
long buffer offset = little 4 13 ++ (little 4 0x6463_6261 ++ (little 4 buffer ++ little 4 offset))

-- where two apply, the lower number is answered: 1 before 2, and so on to 9 before 10; 5 before 6 of a struct that is its own child, and where a child is the node itself and another has the height 16; then 10 alone, and the last node first
abbrev pub FirstFaults : Type 0
FirstFaults =
    map first_fault
    (image [] (words (0 ∷ 0 ∷ []))
    ∷ image (record (plain 5) { rows = 1048577 } ∷ []) []
    ∷ image (record (plain 11) { rows = 1048577; cnt = 256 } ∷ []) []
    ∷ image (record (plain 12) { p = 4; tab = 40; cnt = 2 } ∷ []) (words (0 ∷ 0 ∷ []))
    ∷ image (record (plain 11) { tab = 40; cnt = 1 } ∷ []) (words (0 ∷ []))
    ∷ over_sixteen (plain 11) 0
    ∷ over_sixteen (record (plain 11) { nulls = 0xffff_ffff }) 1
    ∷ image (record (plain 6) { nulls = 0xffff_ffff; a = 40; b = 44; p = 4 } ∷ []) (words (0x8000_0000 ∷ []))
    ∷ image (record (plain 6) { a = 40; b = 44; p = 4 } ∷ []) (words (0x8000_0000 ∷ []))
    ∷ image (record (plain 9) { rows = 2; a = 40; tab = 72 } ∷ []) (short 1 ++ long 0 0)
    ∷ image (record (plain 9) { rows = 1; a = 40; tab = 56 } ∷ []) (short 1)
    ∷ image (plain 5 ∷ record (plain 9) { rows = 1; a = 76; tab = 92 } ∷ []) (short 1)
    ∷ image (record (plain 9) { rows = 1; a = 40; tab = 56 } ∷ []) (short 0)
    ∷ [])
    ≡ (Some (1, 0)
    ∷ Some (2, 0)
    ∷ Some (3, 0)
    ∷ Some (4, 0)
    ∷ Some (5, 0)
    ∷ Some (5, 0)
    ∷ Some (6, 0)
    ∷ Some (7, 0)
    ∷ Some (8, 0)
    ∷ Some (9, 0)
    ∷ Some (10, 0)
    ∷ Some (10, 1)
    ∷ None
    ∷ [])

-- the numbers of the ten
abbrev pub FaultNumbers : Type 0
FaultNumbers =
    map numbered (Header ∷ Kind 7 ∷ Length 7 ∷ Table 7 ∷ Child 7 ∷ Height 7 ∷ Buffer 7 ∷ Order 7 ∷ Reach 7 ∷ View 7 ∷ [])
    ≡ ((1, 0) ∷ (2, 7) ∷ (3, 7) ∷ (4, 7) ∷ (5, 7) ∷ (6, 7) ∷ (7, 7) ∷ (8, 7) ∷ (9, 7) ∷ (10, 7) ∷ [])
