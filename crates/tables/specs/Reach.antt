-- Refusals 7 to 10, as docs/FORMAT.md lists them.
use Rattle.std.specs.Prelude.{◌≡◌, ℕ, ◌-◌, true, false, List, [], ◌∷◌, ◌++◌, map, length, replicate, Some, None, Option}
use Rattle.layout.specs.declared.bytes.Width.TheVariants.{Four, Eight}
use Rattle.layout.specs.declared.data_type.DataType.TheVariants.{Boolean, Number, Float, Utf8, Binary, FixedSizeBinary, View, Dictionary, List as ListOf, ListView, Map}
use Rattle.admission.specs.FirstFault.{first_fault}
use Rattle.admission.specs.Rejections.{bad_offsets, bad_values}
use Rattle.tables.specs.Faults.{long, short}
use Rattle.tables.specs.Images.{image, plain, words}

-- 7: a buffer that ends with the image and one that is a byte longer, of 9 elements, one of them before the first row: bits, values, offsets, of which there is one more, values of 3 bytes, views, keys, offsets, offsets of a list view with its sizes, and offsets of a map
abbrev pub Buffers : Type 0
Buffers =
    map (λ (t, n). map (λ bytes. bad_values (replicate bytes 0) t (record (plain 0) { rows = 8; start = 1 })) (n ∷ (n - 1) ∷ []))
    ((Boolean, 2)
    ∷ (Number Four, 36)
    ∷ (Float Eight, 72)
    ∷ (Utf8 Four, 40)
    ∷ (Binary Eight, 80)
    ∷ (FixedSizeBinary 3, 27)
    ∷ (View, 144)
    ∷ (Dictionary Four true, 36)
    ∷ (ListOf Four, 40)
    ∷ (ListView Four, 36)
    ∷ (Map, 40)
    ∷ [])
    ≡ replicate 11 (false ∷ true ∷ [])

-- 7: a bitmap of 9 bits at place 40 of an image of 42 and of 41 bytes; without a bitmap, and in a run-end column, nothing has to be there
abbrev pub Bitmaps : Type 0
Bitmaps =
    map first_fault
    (image (record (plain 11) { rows = 8; start = 1; nulls = 40; tab = 40 } ∷ []) (0 ∷ 0 ∷ [])
    ∷ image (record (plain 11) { rows = 8; start = 1; nulls = 40; tab = 40 } ∷ []) (0 ∷ [])
    ∷ image (record (plain 11) { rows = 8; start = 1; tab = 40 } ∷ []) []
    ∷ image (record (plain 16) { nulls = 0xffff_ffff; a = 80; p = 4; tab = 76; cnt = 1 } ∷ plain 1 ∷ []) (words (1 ∷ []))
    ∷ [])
    ≡ (None ∷ Some (7, 0) ∷ None ∷ None ∷ [])

-- 8: offsets of 4 bytes from element 0 on: one that is the greatest without a sign, that is the sign bit alone, and one above it; three that are the same, that fall, and that rise; one that is negative behind one that is not
abbrev pub Offsets : Type 0
Offsets =
    map (λ offsets. bad_offsets Four (words offsets) (record (plain 6) { rows = length offsets - 1 }))
    ((0x7fff_ffff ∷ [])
    ∷ (0x8000_0000 ∷ [])
    ∷ (0x8000_0001 ∷ [])
    ∷ (1 ∷ 1 ∷ 1 ∷ [])
    ∷ (0 ∷ 3 ∷ 2 ∷ [])
    ∷ (0 ∷ 2 ∷ 3 ∷ [])
    ∷ (0x7fff_ffff ∷ 0x8000_0000 ∷ [])
    ∷ [])
    ≡ (false ∷ true ∷ true ∷ false ∷ true ∷ false ∷ true ∷ [])

-- 8: offsets before START are not looked at
abbrev pub OffsetsFromStart : Type 0
OffsetsFromStart =
    map (λ start. bad_offsets Four (words (0x8000_0000 ∷ 9 ∷ 0 ∷ 3 ∷ [])) (record (plain 6) { rows = 1; start = start })) (0 ∷ 1 ∷ 2 ∷ [])
    ≡ (true ∷ true ∷ false ∷ [])

-- a run-end column of these ends, with START and ROWS
abbrev pub ended : ℕ → ℕ → List ℕ → List ℕ
ended start rows ends =
    image (record (plain 16) { rows = rows; start = start; a = 80; p = 4; tab = 76; cnt = 1 } ∷ record (plain 1) { rows = length ends } ∷ []) (words (1 ∷ []) ++ words ends)

-- 8: run ends without a row: 0, 1, the greatest without a sign, the sign bit alone; two that are the same, that rise, and that fall
abbrev pub RunEnds : Type 0
RunEnds =
    map (λ ends. first_fault (ended 0 0 ends))
    ((0 ∷ []) ∷ (1 ∷ []) ∷ (0x7fff_ffff ∷ []) ∷ (0x8000_0000 ∷ []) ∷ (2 ∷ 2 ∷ []) ∷ (2 ∷ 3 ∷ []) ∷ (3 ∷ 2 ∷ []) ∷ [])
    ≡ (Some (8, 0) ∷ None ∷ None ∷ Some (8, 0) ∷ Some (8, 0) ∷ None ∷ Some (8, 0) ∷ [])

-- 9: runs that end before element 3, and elements 0 to 2, 0 to 3, 2 alone, 2 and 3; no run, and no element or one
abbrev pub Runs : Type 0
Runs =
    (first_fault (ended 0 3 (2 ∷ 3 ∷ []))
    ∷ first_fault (ended 0 4 (2 ∷ 3 ∷ []))
    ∷ first_fault (ended 2 1 (2 ∷ 3 ∷ []))
    ∷ first_fault (ended 2 2 (2 ∷ 3 ∷ []))
    ∷ first_fault (ended 0 0 [])
    ∷ first_fault (ended 1 0 [])
    ∷ [])
    ≡ (None ∷ Some (9, 0) ∷ None ∷ Some (9, 0) ∷ None ∷ Some (9, 0) ∷ [])

-- 9: text of 3 bytes whose last offset is 3 and 4, and whose first is the greatest without a sign
abbrev pub Texts : Type 0
Texts =
    map (λ last. first_fault (image (record (plain 6) { rows = 1; a = 40; b = 48; p = 4 } ∷ []) (words (0 ∷ last ∷ []) ++ (97 ∷ 98 ∷ 99 ∷ [])))) (3 ∷ 4 ∷ 0x7fff_ffff ∷ [])
    ≡ (None ∷ Some (9, 0) ∷ Some (9, 0) ∷ [])

-- a dictionary of one key of a byte, its values so many rows of nothing: its sign, the key, and its bit in the bitmap
abbrev pub keyed : ℕ → ℕ → ℕ → ℕ → Option (ℕ × ℕ)
keyed values signed key mark =
    first_fault
    (image (record (plain 10) { rows = 1; nulls = 81; a = 80; b = signed; p = 1; tab = 76; cnt = 1 } ∷ record (plain 1) { rows = values } ∷ [])
    (words (1 ∷ []) ++ (key ∷ mark ∷ [])))

-- 9: keys 2 and 3 of three values; 127 and 128 of 200, without a sign and with one; and 3 of three where the row is marked null
abbrev pub Keys : Type 0
Keys =
    (keyed 3 0 2 1 ∷ keyed 3 0 3 1 ∷ keyed 200 0 127 1 ∷ keyed 200 0 128 1 ∷ keyed 200 1 127 1 ∷ keyed 200 1 128 1 ∷ keyed 3 0 3 0 ∷ [])
    ≡ (None ∷ Some (9, 0) ∷ None ∷ None ∷ None ∷ Some (9, 0) ∷ None ∷ [])

-- a list view over two rows of nothing: its offset, its size, and its bit in the bitmap
abbrev pub viewed : ℕ → ℕ → ℕ → Option (ℕ × ℕ)
viewed offset size mark =
    first_fault
    (image (record (plain 13) { rows = 1; nulls = 88; a = 80; b = 84; p = 4; tab = 76; cnt = 1 } ∷ record (plain 1) { rows = 2 } ∷ [])
    (words (1 ∷ offset ∷ size ∷ []) ++ (mark ∷ [])))

-- 9: list views of two child rows, from both ends; none from the end on, and none from behind it; a negative offset, a negative size; and a bad one where the row is marked null
abbrev pub ListViews : Type 0
ListViews =
    (viewed 0 2 1
    ∷ viewed 1 2 1
    ∷ viewed 0 3 1
    ∷ viewed 2 0 1
    ∷ viewed 3 0 1
    ∷ viewed 0x8000_0000 0 1
    ∷ viewed 0 0x8000_0000 1
    ∷ viewed 3 0 0
    ∷ [])
    ≡ (None ∷ Some (9, 0) ∷ Some (9, 0) ∷ None ∷ Some (9, 0) ∷ Some (9, 0) ∷ Some (9, 0) ∷ None ∷ [])

-- 9: rows of a child that a last offset, a size or the elements of a struct pass: a list of 2 and of 3 of two rows; a map of 2 entries, of 3 with too few keys, and with too few values; 3 lists of 2, of 6 rows and of 5; 3 elements of a struct, of 3 rows and of 2 in the second field
abbrev pub ChildRowsReached : Type 0
ChildRowsReached =
    map first_fault
    (image (record (plain 12) { rows = 1; a = 80; p = 4; tab = 76; cnt = 1 } ∷ record (plain 1) { rows = 2 } ∷ []) (words (1 ∷ 0 ∷ 2 ∷ []))
    ∷ image (record (plain 12) { rows = 1; a = 80; p = 4; tab = 76; cnt = 1 } ∷ record (plain 1) { rows = 2 } ∷ []) (words (1 ∷ 0 ∷ 3 ∷ []))
    ∷ image (record (plain 14) { rows = 1; a = 120; tab = 112; cnt = 2 } ∷ record (plain 1) { rows = 2 } ∷ record (plain 1) { rows = 2 } ∷ []) (words (1 ∷ 2 ∷ 0 ∷ 2 ∷ []))
    ∷ image (record (plain 14) { rows = 1; a = 120; tab = 112; cnt = 2 } ∷ record (plain 1) { rows = 2 } ∷ record (plain 1) { rows = 3 } ∷ []) (words (1 ∷ 2 ∷ 0 ∷ 3 ∷ []))
    ∷ image (record (plain 14) { rows = 1; a = 120; tab = 112; cnt = 2 } ∷ record (plain 1) { rows = 3 } ∷ record (plain 1) { rows = 2 } ∷ []) (words (1 ∷ 2 ∷ 0 ∷ 3 ∷ []))
    ∷ image (record (plain 15) { rows = 2; start = 1; p = 2; tab = 76; cnt = 1 } ∷ record (plain 1) { rows = 6 } ∷ []) (words (1 ∷ []))
    ∷ image (record (plain 15) { rows = 2; start = 1; p = 2; tab = 76; cnt = 1 } ∷ record (plain 1) { rows = 5 } ∷ []) (words (1 ∷ []))
    ∷ image (record (plain 11) { rows = 2; start = 1; tab = 112; cnt = 2 } ∷ record (plain 1) { rows = 3 } ∷ record (plain 1) { rows = 3 } ∷ []) (words (1 ∷ 2 ∷ []))
    ∷ image (record (plain 11) { rows = 2; start = 1; tab = 112; cnt = 2 } ∷ record (plain 1) { rows = 3 } ∷ record (plain 1) { rows = 2 } ∷ []) (words (1 ∷ 2 ∷ []))
    ∷ [])
    ≡ (None ∷ Some (9, 0) ∷ None ∷ Some (9, 0) ∷ Some (9, 0) ∷ None ∷ Some (9, 0) ∷ None ∷ Some (9, 0) ∷ [])

-- a row of a view with the 14 bytes "abcdefghijklmn" as its one data buffer, and its bit in the bitmap
abbrev pub seen : List ℕ → ℕ → Option (ℕ × ℕ)
seen view mark =
    first_fault
    (image (record (plain 9) { rows = 1; nulls = 78; a = 40; tab = 56; cnt = 1 } ∷ [])
    (view ++ (words (64 ∷ 14 ∷ []) ++ (97 ∷ 98 ∷ 99 ∷ 100 ∷ 101 ∷ 102 ∷ 103 ∷ 104 ∷ 105 ∷ 106 ∷ 107 ∷ 108 ∷ 109 ∷ 110 ∷ mark ∷ []))))

-- 9 and 10: a short view with a zero behind its byte, and with a 1, which a null mark hides; a long one at offset 0, with a buffer that there is not, with an offset past the end, and at offset 1, where its first four bytes are others
abbrev pub Views : Type 0
Views =
    (seen (short 0) 1 ∷ seen (short 1) 1 ∷ seen (short 1) 0 ∷ seen (long 0 0) 1 ∷ seen (long 1 0) 1 ∷ seen (long 0 2) 1 ∷ seen (long 0 1) 1 ∷ seen (long 0 1) 0 ∷ [])
    ≡ (None ∷ Some (10, 0) ∷ None ∷ None ∷ Some (9, 0) ∷ Some (9, 0) ∷ Some (10, 0) ∷ None ∷ [])
