-- The work of columns.
use Rattle.std.specs.Prelude.{◌≡◌, ℕ, true, false, List, [], ◌∷◌, ◌++◌, map, length, replicate, slice_index, Some, None}
use Rattle.std.specs.List.{range_with_len}
use Rattle.leaves.specs.Rows.{is_leaf}
use Rattle.columns.specs.Column.{node_need}
use Rattle.columns.specs.Open.{OthersStay, is_open}
use Rattle.tables.specs.Images.{image, plain, words}
use Rattle.tables.specs.Types.{types}

-- the types whose slots stand for no other slots: kinds 1 to 9
abbrev pub LeafTypes : Type 0
LeafTypes = map is_leaf types ≡ replicate 8 true ++ replicate 7 false

-- words 0 to 6 of the work of a call that is lent five with two claimed, and of one that is lent two with five claimed: those behind the claimed ones that it is lent are open
abbrev pub OpenWords : Type 0
OpenWords =
    map (λ (claimed, work). map (is_open claimed work) (range_with_len 0 7)) ((2, 5) ∷ (5, 2) ∷ [])
    ≡ ((false ∷ false ∷ true ∷ true ∷ true ∷ false ∷ false ∷ []) ∷ replicate 7 false ∷ [])

-- that the others stay says so of the first word and the last of four, of which two between them are open
abbrev pub EndsStay : Type 0
EndsStay =
    (new : List ℕ)
    → OthersStay (is_open 1 3) (10 ∷ 11 ∷ 12 ∷ 13 ∷ []) new
    → (length new ≡ 4) × (slice_index new 0 ≡ 10) × (slice_index new 3 ≡ 13)

-- a struct of a list of 4 rows, over 6 rows of nothing, and of 7 rows of nothing; and a dictionary over the struct, which has 2 rows
abbrev pub family : List ℕ
family =
    image
    (record (plain 10) { a = 0; p = 1; tab = 184; cnt = 1 }
    ∷ record (plain 11) { rows = 2; tab = 188; cnt = 2 }
    ∷ record (plain 12) { rows = 4; a = 200; p = 4; tab = 196; cnt = 1 }
    ∷ record (plain 1) { rows = 6 }
    ∷ record (plain 1) { rows = 7 }
    ∷ [])
    (words (1 ∷ 2 ∷ 4 ∷ 3 ∷ 0 ∷ 1 ∷ 2 ∷ 3 ∷ 6 ∷ []))

-- the needs of the five and of a node that there is not: the largest sum of a child's rows and need, 2 + 10, 4 + 6 rather than 7 + 0, 6 + 0, and none without children
abbrev pub Needs : Type 0
Needs = map (node_need family) (range_with_len 0 6) ≡ (Some 12 ∷ Some 10 ∷ Some 6 ∷ Some 0 ∷ Some 0 ∷ None ∷ [])
