-- The numbers of child rows, in a region of the work.
use Rattle.std.specs.Prelude.{ℕ, ◌<◌, ◌^◌, Bool, length}
use Rattle.layout.specs.declared.bytes.Width.{Width}
use Rattle.layout.specs.declared.column.Column.{Column}
use Rattle.layout.specs.Nodes.{child_rows, element}
use Rattle.columns.specs.Fold.{combined_all, referred}
use Rattle.columns.specs.Jobs.{standing}
use Rattle.columns.specs.Seams.{Within}
use Rattle.columns.specs.declared.region.Region.{Region}

-- `count` child rows from one on have their numbers in a region
abbrev pub Holds : Region → ℕ → ℕ → Type 0
Holds region start count = Within region.from (length region.numbers.now) start count

-- the number of a child row in a region
abbrev pub number_in : Region → ℕ → ℕ
number_in region = standing region.numbers.now region.from

-- the numbers of `count` child rows from one on, combined with an entry
abbrev pub combined_in : Region → ℕ → ℕ → ℕ → ℕ
combined_in region e start count = combined_all (number_in region) e start count

-- a reference to a child row, by the child rows' numbers in a region
abbrev pub referred_in : Column → Region → Bool → ℕ → ℕ → ℕ
referred_in column region first e row = referred column.bytes.now column.record (number_in region) first e row

-- the key of an element of a dictionary
abbrev pub key_of : Width → Column → ℕ → ℕ
key_of w column at = element w column.bytes.now column.record.a at

-- a row of a column's child 0, of which there are fewer than 2^32
abbrev pub ChildRow : Column → ℕ → Type 0
ChildRow column row = (row < child_rows column.bytes.now column.record 0) × (child_rows column.bytes.now column.record 0 < 2 ^ 32)
