-- The slots of images, as docs/FORMAT.md says.
use Rattle.std.specs.Prelude.{◌≡◌, ℕ, zero, suc, ◌+◌, true, false, List, [], ◌∷◌, ◌++◌, map, replicate, Ok, Err}
use Rattle.std.specs.List.{range_with_len}
use Rattle.layout.specs.declared.record.Record.{Record}
use Rattle.image.specs.Levels.{DeepEnough}
use Rattle.image.specs.Read.{slot_at, slot_within}
use Rattle.image.specs.Slot.{Slot, null, nothing, boolean, number, float, text, binary, view, refer, struct, sequence, entries, done, ◌⨾◌, none, entry}
use Rattle.image.specs.Values.{a_number, handed_out, kind_alone, null_mark, value_answer}
use Rattle.tables.specs.Faults.{long, short}
use Rattle.tables.specs.Images.{image, little, plain, structs, words}

-- the image that docs/FORMAT.md goes through byte by byte: list views over numbers of 2 bytes
abbrev pub passes : List ℕ
passes =
    image
    (record { kind = 13; rows = 3; start = 1; nulls = 122; a = 80; b = 96; p = 4; tab = 76; cnt = 1 }
    ∷ record { kind = 3; rows = 4; start = 1; nulls = 0; a = 112; b = 0; p = 2; tab = 0; cnt = 0 }
    ∷ [])
    (words (1 ∷ 9 ∷ 2 ∷ 0xffff_ffff ∷ 0 ∷ 9 ∷ 2 ∷ 7 ∷ 3 ∷ [])
    ++ (little 2 0xffff ++ (little 2 100 ++ (little 2 250 ++ (little 2 300 ++ (little 2 0xffff ++ (0x0a ∷ [])))))))

-- its slots: the last two frames, a marked null, and the first three
abbrev pub Passes : Type 0
Passes =
    map (slot_at passes 0) (0 ∷ 1 ∷ 2 ∷ [])
    ≡ (sequence (number 2 300 ⨾ number 2 65535 ⨾ done) ∷ null ∷ sequence (number 2 100 ⨾ number 2 250 ⨾ number 2 300 ⨾ done) ∷ [])

-- what the slot reader answers of them: the kind alone, a null mark, a number; 17 of a row that there is not, 13 of a node that there is not, whatever the row
abbrev pub Answers : Type 0
Answers =
    (value_answer passes 0 0 ∷ value_answer passes 0 1 ∷ value_answer passes 1 0 ∷ value_answer passes 0 3 ∷ value_answer passes 2 0 ∷ value_answer passes 2 9 ∷ [])
    ≡ (Ok (kind_alone 13) ∷ Ok null_mark ∷ Ok (a_number 2 100) ∷ Err 17 ∷ Err 13 ∷ Err 13 ∷ [])

-- of nothing, a reference, a struct, a sequence and a map the KIND alone is handed out
abbrev pub KindsAlone : Type 0
KindsAlone = map (handed_out 11 5) (nothing ∷ refer null ∷ struct done ∷ sequence done ∷ entries none ∷ []) ≡ replicate 5 (kind_alone 11)

-- the slots of two rows of a node behind which the others and some bytes stand
abbrev pub two_rows : List Record → List ℕ → List Slot
two_rows records bytes = map (slot_at (image records bytes) 0) (0 ∷ 1 ∷ [])

-- two rows of each leaf, the first of which is element 1: nothing, Booleans, numbers, floats, text, binary of 4-byte offsets and of 2 bytes, a short view and a long one
abbrev pub Leaves : Type 0
Leaves =
    (two_rows (record (plain 1) { rows = 2; start = 1 } ∷ []) []
    ∷ two_rows (record (plain 2) { rows = 2; start = 1; a = 40 } ∷ []) (2 ∷ [])
    ∷ two_rows (record (plain 3) { rows = 2; start = 1; a = 40; p = 2 } ∷ []) (0 ∷ 0 ∷ 1 ∷ 2 ∷ 3 ∷ 4 ∷ [])
    ∷ two_rows (record (plain 4) { rows = 2; start = 1; a = 40; p = 2 } ∷ []) (0 ∷ 0 ∷ 0 ∷ 0x80 ∷ 1 ∷ 0x7e ∷ [])
    ∷ two_rows (record (plain 6) { rows = 2; start = 1; a = 40; b = 56; p = 4 } ∷ []) (words (0 ∷ 1 ∷ 1 ∷ 3 ∷ []) ++ (97 ∷ 98 ∷ 99 ∷ []))
    ∷ two_rows (record (plain 7) { rows = 2; start = 1; a = 40; b = 56; p = 4 } ∷ []) (words (0 ∷ 1 ∷ 1 ∷ 3 ∷ []) ++ (97 ∷ 98 ∷ 99 ∷ []))
    ∷ two_rows (record (plain 8) { rows = 2; start = 1; a = 40; p = 2 } ∷ []) (1 ∷ 2 ∷ 3 ∷ 4 ∷ 5 ∷ 6 ∷ [])
    ∷ two_rows (record (plain 9) { rows = 2; a = 40; tab = 72; cnt = 1 } ∷ []) (short 0 ++ (long 0 1 ++ (words (80 ∷ 14 ∷ []) ++ range_with_len 96 14)))
    ∷ [])
    ≡ ((nothing ∷ nothing ∷ [])
    ∷ (boolean true ∷ boolean false ∷ [])
    ∷ (number 2 0x0201 ∷ number 2 0x0403 ∷ [])
    ∷ (float 2 0x8000 ∷ float 2 0x7e01 ∷ [])
    ∷ (text [] ∷ text (98 ∷ 99 ∷ []) ∷ [])
    ∷ (binary [] ∷ binary (98 ∷ 99 ∷ []) ∷ [])
    ∷ (binary (3 ∷ 4 ∷ []) ∷ binary (5 ∷ 6 ∷ []) ∷ [])
    ∷ (view (97 ∷ []) ∷ view (range_with_len 97 13) ∷ [])
    ∷ [])

-- the numbers 1, 2 and so on, of a byte each, as a child that begins with element 1
abbrev pub counting : ℕ → ℕ → Record
counting place rows = record (plain 3) { rows = rows; start = 1; a = place; p = 1 }

-- two rows of each kind that has children, over the numbers 1 to 6, the first row of each element 1: keys 0, 5 and 1; a struct of the same child twice; lists by the offsets 0, 1, 3, 3; list views 9 from 9, none from 6, and 2 from 4; maps by the offsets of the lists, whose values are the keys; lists of 2; and runs that end before 2 and 3
abbrev pub Parents : Type 0
Parents =
    (two_rows (record (plain 10) { rows = 2; start = 1; a = 80; p = 1; tab = 76; cnt = 1 } ∷ counting 83 6 ∷ []) (words (1 ∷ []) ++ (0 ∷ 5 ∷ 1 ∷ range_with_len 0 7))
    ∷ two_rows (record (plain 11) { rows = 2; start = 1; tab = 76; cnt = 2 } ∷ counting 84 6 ∷ []) (words (1 ∷ 1 ∷ []) ++ range_with_len 0 7)
    ∷ two_rows (record (plain 12) { rows = 2; start = 1; a = 80; p = 4; tab = 76; cnt = 1 } ∷ counting 96 6 ∷ []) (words (1 ∷ 0 ∷ 1 ∷ 3 ∷ 3 ∷ []) ++ range_with_len 0 7)
    ∷ two_rows (record (plain 13) { rows = 2; start = 1; a = 80; b = 92; p = 4; tab = 76; cnt = 1 } ∷ counting 104 6 ∷ []) (words (1 ∷ 9 ∷ 6 ∷ 4 ∷ 9 ∷ 0 ∷ 2 ∷ []) ++ range_with_len 0 7)
    ∷ two_rows (record (plain 14) { rows = 2; start = 1; a = 84; tab = 76; cnt = 2 } ∷ counting 100 6 ∷ []) (words (1 ∷ 1 ∷ 0 ∷ 1 ∷ 3 ∷ 3 ∷ []) ++ range_with_len 0 7)
    ∷ two_rows (record (plain 15) { rows = 2; start = 1; p = 2; tab = 76; cnt = 1 } ∷ counting 80 6 ∷ []) (words (1 ∷ []) ++ range_with_len 0 7)
    ∷ two_rows (record (plain 16) { rows = 2; start = 1; a = 80; p = 2; tab = 76; cnt = 1 } ∷ counting 84 2 ∷ []) (words (1 ∷ []) ++ (2 ∷ 0 ∷ 3 ∷ 0 ∷ range_with_len 0 3))
    ∷ [])
    ≡ ((refer (number 1 6) ∷ refer (number 1 2) ∷ [])
    ∷ (struct (number 1 2 ⨾ number 1 2 ⨾ done) ∷ struct (number 1 3 ⨾ number 1 3 ⨾ done) ∷ [])
    ∷ (sequence (number 1 2 ⨾ number 1 3 ⨾ done) ∷ sequence done ∷ [])
    ∷ (sequence done ∷ sequence (number 1 5 ⨾ number 1 6 ⨾ done) ∷ [])
    ∷ (entries (entry (number 1 2) (number 1 2) (entry (number 1 3) (number 1 3) none)) ∷ entries none ∷ [])
    ∷ (sequence (number 1 3 ⨾ number 1 4 ⨾ done) ∷ sequence (number 1 5 ⨾ number 1 6 ⨾ done) ∷ [])
    ∷ (refer (number 1 1) ∷ refer (number 1 2) ∷ [])
    ∷ [])

-- a map whose keys are the numbers 2 and values the numbers 5: the first child has the keys
abbrev pub KeysFirst : Type 0
KeysFirst =
    slot_at
    (image (record (plain 14) { rows = 1; a = 120; tab = 112; cnt = 2 } ∷ record (plain 3) { rows = 1; a = 128; p = 1 } ∷ record (plain 3) { rows = 1; a = 129; p = 1 } ∷ [])
    (words (1 ∷ 2 ∷ 0 ∷ 1 ∷ []) ++ (2 ∷ 5 ∷ [])))
    0
    0
    ≡ entries (entry (number 1 2) (number 1 5) none)

-- structs in structs, so many in the outer one
abbrev pub nest : ℕ → Slot
nest zero = struct done
nest (suc n) = struct (nest n ⨾ done)

-- a record with one row
abbrev pub one_row : Record → Record
one_row r = record r { rows = 1 }

-- an image of 16 structs of one row, each the parent of the one after it
abbrev pub nested : List ℕ
nested = image (map one_row (structs 580 16)) (words (range_with_len 1 15))

-- sixteen levels reach the last struct
abbrev pub Nested : Type 0
Nested = slot_at nested 0 0 ≡ nest 15

-- that no slot changes further down says so of the first row of the passes, and of sixteen structs
abbrev pub NoneDeeper : Type 0
NoneDeeper =
    (more : ℕ)
    → (DeepEnough passes 0 0 → slot_within (16 + more) passes 0 0 ≡ sequence (number 2 300 ⨾ number 2 65535 ⨾ done))
    × (DeepEnough nested 0 0 → slot_within (16 + more) nested 0 0 ≡ nest 15)
