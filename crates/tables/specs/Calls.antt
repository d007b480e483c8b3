-- Calls of a run, as docs/RUNS.md lists them.
use Rattle.std.specs.Prelude.{◌≡◌, ℕ, true, false, List, [], ◌∷◌, ◌++◌, map, length, replicate, Some, None}
use Rattle.std.specs.List.{range_with_len}
use Rattle.runs.specs.declared.call.Lent.{Lent}
use Rattle.runs.specs.declared.fault.RunFault.TheVariants.{Entries, Columns, Node, Length, Listed, Work, Row}
use Rattle.runs.specs.Apart.{all_combine}
use Rattle.runs.specs.Calls.{is_misuse, made}
use Rattle.runs.specs.Columns.{Column, all_below, combines, combining, height, is_there, met_at}
use Rattle.runs.specs.Ledger.{begun}
use Rattle.runs.specs.Refusals.{begin_refusal, column_refusal, keep_refusal, read_refusal, unclaimed}
use Rattle.runs.specs.Open.{opened, opens}
use Rattle.runs.specs.Requests.{column, keep, read, accepted, refused, row_read}
use Rattle.runs.specs.Runs.{fault_number}
use Rattle.tables.specs.Images.{image, plain, words}
use Rattle.tables.specs.Types.{types}

-- which types combine as first: those of kinds 11 to 15
abbrev pub CombiningFirst : Type 0
CombiningFirst =
    map (combining true) types
    ≡ (false ∷ false ∷ false ∷ false ∷ false ∷ false ∷ false ∷ false ∷ false ∷ true ∷ true ∷ true ∷ true ∷ true ∷ false ∷ [])

-- and as later: all but numbers, floats and views
abbrev pub CombiningLater : Type 0
CombiningLater =
    map (combining false) types
    ≡ (true ∷ true ∷ false ∷ false ∷ true ∷ true ∷ true ∷ false ∷ true ∷ true ∷ true ∷ true ∷ true ∷ true ∷ true ∷ [])

-- three rows of each: node 0, a struct of node 1; node 1, the bytes 5, 5 and 6; node 2, the Booleans true, true and false
abbrev pub table : List ℕ
table =
    image
    (record (plain 11) { rows = 3; tab = 112; cnt = 1 } ∷ record (plain 3) { rows = 3; a = 116; p = 1 } ∷ record (plain 2) { rows = 3; a = 119 } ∷ [])
    (words (1 ∷ []) ++ (5 ∷ 5 ∷ 6 ∷ 3 ∷ []))

-- a node of it
abbrev pub of_table : ℕ → Column
of_table node = record { bytes = table; node = node }

-- the struct, the bytes and the Booleans as first and as later
abbrev pub TableCombines : Type 0
TableCombines =
    map (λ first. map (λ node. combines first (of_table node)) (0 ∷ 1 ∷ 2 ∷ [])) (true ∷ false ∷ [])
    ≡ ((true ∷ false ∷ false ∷ []) ∷ (true ∷ false ∷ true ∷ []) ∷ [])

-- columns of it, the latest first: none, the struct, the bytes, the Booleans alone and over the struct, the struct over the Booleans and over the bytes, the bytes over the struct, and both over it
abbrev pub AllCombine : Type 0
AllCombine =
    map (λ nodes. all_combine (map of_table nodes))
    ([] ∷ (0 ∷ []) ∷ (1 ∷ []) ∷ (2 ∷ []) ∷ (2 ∷ 0 ∷ []) ∷ (0 ∷ 2 ∷ []) ∷ (0 ∷ 1 ∷ []) ∷ (1 ∷ 0 ∷ []) ∷ (2 ∷ 0 ∷ 0 ∷ []) ∷ [])
    ≡ (true ∷ true ∷ false ∷ false ∷ true ∷ false ∷ false ∷ false ∷ true ∷ [])

-- the nodes that there are, and the ROWS of each
abbrev pub TableRows : Type 0
TableRows = (map (λ node. is_there (of_table node)) (0 ∷ 2 ∷ 3 ∷ []) ≡ (true ∷ true ∷ false ∷ [])) × (map (λ node. height (of_table node)) (0 ∷ 1 ∷ 2 ∷ []) ≡ (3 ∷ 3 ∷ 3 ∷ []))

-- the row that row 1 meets, without a list and by one; and lists whose numbers are below 2: none, 0 and 1, 2
abbrev pub RowsMet : Type 0
RowsMet =
    ((met_at None 1 ∷ met_at (Some (7 ∷ 5 ∷ [])) 1 ∷ []) ≡ (1 ∷ 5 ∷ [])) × (map (all_below 2) ([] ∷ (0 ∷ 1 ∷ []) ∷ (1 ∷ 2 ∷ 0 ∷ []) ∷ []) ≡ (true ∷ true ∷ false ∷ []))

-- so many entries and words of work, of which so many are claimed
abbrev pub lent : ℕ → ℕ → ℕ → Lent
lent entries work claimed = record { entries = entries; work = work; claimed = claimed }

-- the words behind the claimed ones: of 5 with 0, 3, 5 and 6 claimed
abbrev pub Unclaimed : Type 0
Unclaimed = map (λ claimed. unclaimed (lent 0 5 claimed)) (0 ∷ 3 ∷ 5 ∷ 6 ∷ []) ≡ (5 ∷ 2 ∷ 0 ∷ 0 ∷ [])

-- the numbers of the refusals
abbrev pub RefusalNumbers : Type 0
RefusalNumbers = map fault_number (Entries ∷ Columns ∷ Node ∷ Length ∷ Listed ∷ Work ∷ Row ∷ []) ≡ (11 ∷ 12 ∷ 13 ∷ 14 ∷ 15 ∷ 16 ∷ 17 ∷ [])

-- begin with no entry, 1,048,576 and one more
abbrev pub BeginLimit : Type 0
BeginLimit = map begin_refusal (0 ∷ 1048576 ∷ 1048577 ∷ []) ≡ (None ∷ None ∷ Some 11 ∷ [])

-- a column of the table in a run of three rows, with each ground of refusal alone: entries just enough and one too few; 254 columns before it and 255; the last node and one behind it; a list of three, and of two; rows 2 and 3; work of three words, which the struct needs, and of two, and of five with two claimed and with three
abbrev pub ColumnLimits : Type 0
ColumnLimits =
    (column_refusal 3 0 (of_table 0) None (lent 3 3 0)
    ∷ column_refusal 3 0 (of_table 0) None (lent 2 3 0)
    ∷ column_refusal 3 254 (of_table 0) None (lent 3 3 0)
    ∷ column_refusal 3 255 (of_table 0) None (lent 3 3 0)
    ∷ column_refusal 3 0 (of_table 2) None (lent 3 0 0)
    ∷ column_refusal 3 0 (of_table 3) None (lent 3 0 0)
    ∷ column_refusal 2 0 (of_table 2) None (lent 3 0 0)
    ∷ column_refusal 3 0 (of_table 2) (Some (2 ∷ 2 ∷ 0 ∷ [])) (lent 3 0 0)
    ∷ column_refusal 3 0 (of_table 2) (Some (2 ∷ 2 ∷ [])) (lent 3 0 0)
    ∷ column_refusal 3 0 (of_table 2) (Some (2 ∷ 3 ∷ 0 ∷ [])) (lent 3 0 0)
    ∷ column_refusal 3 0 (of_table 0) None (lent 3 2 0)
    ∷ column_refusal 3 0 (of_table 0) None (lent 3 5 2)
    ∷ column_refusal 3 0 (of_table 0) None (lent 3 5 3)
    ∷ [])
    ≡ (None ∷ Some 11 ∷ None ∷ Some 12 ∷ None ∷ Some 13 ∷ Some 14 ∷ None ∷ Some 14 ∷ Some 15 ∷ Some 16 ∷ None ∷ Some 16 ∷ [])

-- where two grounds apply to a column, the lower number is answered: 11 before 12, 12 before 13, 13 before 14, 14 before 15, 15 before 16
abbrev pub ColumnOrder : Type 0
ColumnOrder =
    (column_refusal 3 255 (of_table 0) None (lent 2 3 0)
    ∷ column_refusal 3 255 (of_table 3) None (lent 3 3 0)
    ∷ column_refusal 3 0 (of_table 3) (Some []) (lent 3 3 0)
    ∷ column_refusal 3 0 (of_table 2) (Some (3 ∷ 0 ∷ [])) (lent 3 3 0)
    ∷ column_refusal 3 0 (of_table 0) (Some (2 ∷ 3 ∷ 0 ∷ [])) (lent 3 2 0)
    ∷ [])
    ≡ (Some 11 ∷ Some 12 ∷ Some 13 ∷ Some 14 ∷ Some 15 ∷ [])

-- a keep in a run of two rows: three rows of it, with entries and work just enough, one too few for the rows, one too few for the list, a number that is no row, and one word too few; and 11 before 14, 14 before 15, 15 before 16
abbrev pub KeepRefusals : Type 0
KeepRefusals =
    (keep_refusal 2 (1 ∷ 0 ∷ 1 ∷ []) (lent 3 3 0)
    ∷ keep_refusal 2 (1 ∷ []) (lent 1 3 0)
    ∷ keep_refusal 2 (1 ∷ 0 ∷ 1 ∷ []) (lent 2 3 0)
    ∷ keep_refusal 2 (1 ∷ 2 ∷ 1 ∷ []) (lent 3 3 0)
    ∷ keep_refusal 2 (1 ∷ 0 ∷ 1 ∷ []) (lent 3 2 0)
    ∷ keep_refusal 2 (1 ∷ 0 ∷ []) (lent 1 3 0)
    ∷ keep_refusal 2 (1 ∷ 2 ∷ 1 ∷ []) (lent 2 3 0)
    ∷ keep_refusal 2 (1 ∷ 2 ∷ 1 ∷ []) (lent 3 2 0)
    ∷ [])
    ≡ (None ∷ Some 11 ∷ Some 14 ∷ Some 15 ∷ Some 16 ∷ Some 11 ∷ Some 14 ∷ Some 15 ∷ [])

-- a keep of 1,048,576 rows, whichever they are, and of one more
abbrev pub KeepLimit : Type 0
KeepLimit =
    (list : List ℕ)
    → all_below 2 list ≡ true
    → (length list ≡ 1048576 → keep_refusal 2 list (lent 1048577 1048577 0) ≡ None)
    × (length list ≡ 1048577 → keep_refusal 2 list (lent 1048577 1048577 0) ≡ Some 14)

-- a read in a run of two rows: the last row, one behind it, with entries one too few, and 11 before 17
abbrev pub ReadRefusals : Type 0
ReadRefusals = (read_refusal 2 1 2 ∷ read_refusal 2 2 2 ∷ read_refusal 2 1 1 ∷ read_refusal 2 2 1 ∷ []) ≡ (None ∷ Some 17 ∷ Some 11 ∷ Some 11 ∷ [])

-- a misuse is a read of a run without a column: a column, a keep and a read, of a run without one and with one
abbrev pub Misuses : Type 0
Misuses =
    map (λ count. map (is_misuse count) (column (of_table 0) None (lent 3 3 0) ∷ keep [] (lent 3 3 0) ∷ read 0 3 ∷ [])) (0 ∷ 1 ∷ [])
    ≡ ((false ∷ false ∷ true ∷ []) ∷ (false ∷ false ∷ false ∷ []) ∷ [])

-- how many calls are made after begin took three entries: of none; of a read; of a keep and a read; of a column and two reads; of a column that is refused, and a read
abbrev pub MadeCalls : Type 0
MadeCalls =
    map (made (begun (7 ∷ 8 ∷ 9 ∷ [])))
    ([]
    ∷ (read 0 3 ∷ [])
    ∷ (keep (0 ∷ []) (lent 3 3 0) ∷ read 0 3 ∷ [])
    ∷ (column (of_table 2) None (lent 3 0 0) ∷ read 0 3 ∷ read 9 3 ∷ [])
    ∷ (column (of_table 3) None (lent 3 0 0) ∷ read 0 3 ∷ [])
    ∷ [])
    ≡ (0 ∷ 0 ∷ 1 ∷ 3 ∷ 1 ∷ [])

-- words 0 to 6 of the work of calls that are lent five with two claimed: those behind the claimed ones are open of a column and a keep that are accepted; of refused ones, and of a read, none is
abbrev pub OpenedWords : Type 0
OpenedWords =
    map (λ (request, reply). map (opens request reply) (range_with_len 0 7))
    ((column (of_table 0) None (lent 3 5 2), accepted)
    ∷ (column (of_table 0) None (lent 3 5 2), refused 16)
    ∷ (keep [] (lent 3 5 2), accepted)
    ∷ (keep [] (lent 3 5 2), refused 14)
    ∷ (read 0 3, row_read 7 1)
    ∷ (read 0 3, refused 17)
    ∷ [])
    ≡ ((false ∷ false ∷ true ∷ true ∷ true ∷ false ∷ false ∷ [])
    ∷ replicate 7 false
    ∷ (false ∷ false ∷ true ∷ true ∷ true ∷ false ∷ false ∷ [])
    ∷ replicate 7 false
    ∷ replicate 7 false
    ∷ replicate 7 false
    ∷ [])

-- the same of a list of calls: words that one of them opens; of none, of a read and two accepted columns, the first lent words 1 and 2 and the last word 4, and of the same where the last is refused
abbrev pub OpenedByCalls : Type 0
OpenedByCalls =
    map (λ (requests, replies). map (opened requests replies) (range_with_len 0 7))
    (([], [])
    ∷ (read 0 3 ∷ column (of_table 2) None (lent 3 3 1) ∷ column (of_table 2) None (lent 3 5 4) ∷ [], row_read 7 1 ∷ accepted ∷ accepted ∷ [])
    ∷ (read 0 3 ∷ column (of_table 2) None (lent 3 3 1) ∷ column (of_table 2) None (lent 3 5 4) ∷ [], row_read 7 1 ∷ accepted ∷ refused 14 ∷ [])
    ∷ [])
    ≡ (replicate 7 false
    ∷ (false ∷ true ∷ true ∷ false ∷ true ∷ false ∷ false ∷ [])
    ∷ (false ∷ true ∷ true ∷ false ∷ false ∷ false ∷ false ∷ [])
    ∷ [])
