-- Rows that are marked null, counted.
use Rattle.std.specs.Prelude.{◌≡◌, ℕ, List, [], ◌∷◌, ◌++◌, replicate, Some, None, Option}
use Rattle.summary.specs.Nulls.{nulls_of}
use Rattle.tables.specs.Images.{image, plain, words}

-- the nulls of 300 rows of Booleans, from an element on, by a bitmap
abbrev pub nulls_of_300 : ℕ → List ℕ → Option ℕ
nulls_of_300 start bitmap = nulls_of (image (record (plain 2) { rows = 300; start = start; nulls = 40; a = 40 } ∷ []) bitmap) 0

-- bitmaps of zeros alone, of ones alone, and of a byte of zeros before them, which START passes over
abbrev pub ManyNulls : Type 0
ManyNulls =
    (nulls_of_300 0 (replicate 38 0) ∷ nulls_of_300 0 (replicate 38 0xff) ∷ nulls_of_300 0 (0 ∷ replicate 37 0xff) ∷ nulls_of_300 8 (0 ∷ replicate 38 0xff) ∷ [])
    ≡ (Some 300 ∷ Some 0 ∷ Some 8 ∷ Some 0 ∷ [])

-- without a bitmap there is none, nor in a column of nothing or of runs, whatever NULLS is; and there is no second node
abbrev pub NoNulls : Type 0
NoNulls =
    (nulls_of (image (record (plain 2) { rows = 8; a = 40 } ∷ []) (0 ∷ [])) 0
    ∷ nulls_of (image (record (plain 1) { rows = 8; nulls = 40 } ∷ []) (0 ∷ [])) 0
    ∷ nulls_of (image (record (plain 16) { rows = 8; nulls = 84; a = 80; p = 4; tab = 76; cnt = 1 } ∷ record (plain 1) { rows = 1 } ∷ []) (words (1 ∷ 8 ∷ []) ++ (0 ∷ []))) 0
    ∷ nulls_of (image (record (plain 2) { rows = 8; a = 40 } ∷ []) (0 ∷ [])) 1
    ∷ [])
    ≡ (Some 0 ∷ Some 0 ∷ Some 0 ∷ None ∷ [])
