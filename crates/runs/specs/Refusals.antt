-- When a call is refused, in checking order, in a run of so many rows that has accepted so many columns.
use Rattle.std.specs.Prelude.{ℕ, ◌-◌, cond, not, ◌||◌, List, length, ◌==◌, nat_lt, Some, None, Option}
use Rattle.runs.specs.declared.call.Lent.{Lent}
use Rattle.runs.specs.Columns.{Column, all_below, column_need, height, is_there, list_below, meeting_of}
use Rattle.runs.specs.Requests.{Request, Reply, column, keep, read, accepted, refused, row_read}

-- no run has more rows
abbrev pub most_rows : ℕ
most_rows = 1048576

-- nor has accepted more columns
abbrev pub most_columns : ℕ
most_columns = 255

-- 11 at begin
abbrev pub begin_refusal : ℕ → Option ℕ
begin_refusal entries = cond (nat_lt most_rows entries) (Some 11) None

-- the words of the work behind the claimed ones: none where more are claimed than there are
abbrev pub unclaimed : Lent → ℕ
unclaimed lent = lent.work - lent.claimed

-- one thing where a call is refused, and else another
abbrev pub unless : {X : Type 0} → Option ℕ → (ℕ → X) → X → X
unless (Some number) stop go = stop number
unless None stop go = go

-- 11 to 13 of a column
abbrev pub node_refusal : ℕ → ℕ → Column → Lent → Option ℕ
node_refusal rows count c lent =
    cond (nat_lt lent.entries rows) (Some 11)
    (cond (count == most_columns) (Some 12)
    (cond (not (is_there c)) (Some 13) None))

-- 14 to 16 of a column of so many rows and such a need
abbrev pub rows_refusal : ℕ → ℕ → ℕ → Option (List ℕ) → Lent → Option ℕ
rows_refusal rows height need list lent =
    cond (not (meeting_of height list == rows)) (Some 14)
    (cond (not (list_below height list)) (Some 15)
    (cond (nat_lt (unclaimed lent) need) (Some 16) None))

-- 11 to 16 of a column: the first three, which are asked before the need is known, and then the rest
abbrev pub column_refusal : ℕ → ℕ → Column → Option (List ℕ) → Lent → Option ℕ
column_refusal rows count c list lent =
    unless (node_refusal rows count c lent) (λ number. Some number)
    (rows_refusal rows (height c) (column_need c) list lent)

-- 11, 14, 15 and 16 of a keep
abbrev pub keep_refusal : ℕ → List ℕ → Lent → Option ℕ
keep_refusal rows list lent =
    cond (nat_lt lent.entries rows) (Some 11)
    (cond (nat_lt lent.entries (length list) || nat_lt most_rows (length list)) (Some 14)
    (cond (not (all_below rows list)) (Some 15)
    (cond (nat_lt (unclaimed lent) (length list)) (Some 16) None)))

-- 11 and 17 of a read
abbrev pub read_refusal : ℕ → ℕ → ℕ → Option ℕ
read_refusal rows row entries =
    cond (nat_lt entries rows) (Some 11)
    (cond (not (nat_lt row rows)) (Some 17) None)

-- the first refusal that applies to a request, or none
abbrev pub refusal : ℕ → ℕ → Request → Option ℕ
refusal rows count (column c list lent) = column_refusal rows count c list lent
refusal rows count (keep list lent) = keep_refusal rows list lent
refusal rows count (read row entries) = read_refusal rows row entries

-- the answer to a request that is not refused, by the rows' numbers
abbrev pub granted : ℕ → (ℕ → ℕ) → Request → Reply
granted count number (column c list lent) = accepted
granted count number (keep list lent) = accepted
granted count number (read k entries) = row_read (number k) count

-- what is answered: the refusal, or what is granted
abbrev pub reply : ℕ → ℕ → (ℕ → ℕ) → Request → Reply
reply rows count number request = unless (refusal rows count request) refused (granted count number request)
