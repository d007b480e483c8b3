-- What the walk may count on of the rows of a node.
use Rattle.std.specs.Prelude.{◌≡◌, ℕ, ◌+◌, ◌-◌, ◌*◌, ◌^◌, ◌<◌, ◌≤◌, false, List, length, slice_index, ◌==◌, Some}
use Rattle.layout.specs.declared.bytes.Width.{Width}
use Rattle.layout.specs.declared.bytes.Width.TheVariants.{Four}
use Rattle.layout.specs.declared.record.Record.{Record}
use Rattle.layout.specs.declared.data_type.DataType.{DataType}
use Rattle.layout.specs.declared.data_type.DataType.TheVariants.{Dictionary, Struct, List as ListOf, ListView, Map, FixedSizeList, RunEnd}
use Rattle.layout.specs.Bytes.{wide}
use Rattle.layout.specs.Nodes.{child, child_count, child_rows, ChildThere, element}
use Rattle.admission.specs.Rejections.{bad_run_ends}
use Rattle.admission.specs.Seams.{ElementThere}
use Rattle.image.specs.Read.{offset, run_of, span}
use Rattle.columns.specs.Jobs.{need}
use Rattle.columns.specs.declared.node.Node.{Node}

-- `count` child rows from one on have their numbers in a region of so many words, the first for the child row `from`
abbrev pub Within : ℕ → ℕ → ℕ → ℕ → Type 0
Within from len start count = (from ≤ start) × (start + count ≤ from + len)

-- two offsets, of elements n apart, that can be read, do not fall, and have 32 bits
abbrev pub OffsetsThere : Width → List ℕ → Record → ℕ → ℕ → Type 0
OffsetsThere w bytes r at n =
    ElementThere w bytes r.a at
    × ElementThere w bytes r.a (at + n)
    × (offset w bytes r at ≤ offset w bytes r (at + n))
    × (offset w bytes r (at + n) < 2 ^ 32)

-- runs that can be searched, and that cover n elements from one on
abbrev pub RunEndsThere : Width → List ℕ → Record → ℕ → ℕ → Type 0
RunEndsThere w bytes r at n =
    ChildThere bytes r 0
    × (r.a + wide w * child_rows bytes r 0 ≤ length bytes)
    × (bad_run_ends w bytes r ≡ false)
    × (at + n < 2 ^ 32)
    × ((n == 0) ≡ false → run_of w bytes r (at + n - 1) < child_rows bytes r 0)
    × ((n == 0) ≡ false → run_of w bytes r at ≤ run_of w bytes r (at + n - 1))

-- what rows of a range reach can be told
abbrev pub ReachThere : DataType → List ℕ → Record → ℕ → ℕ → Type 0
ReachThere (Dictionary w signed) bytes r lo n = ((r.cnt == 0) ≡ false) × ChildThere bytes r 0
ReachThere Struct bytes r lo n = r.start + lo + n < 2 ^ 32
ReachThere (ListOf w) bytes r lo n = ((r.cnt == 0) ≡ false) × OffsetsThere w bytes r (r.start + lo) n
ReachThere (ListView w) bytes r lo n = ((r.cnt == 0) ≡ false) × ChildThere bytes r 0
ReachThere Map bytes r lo n = ((r.cnt == 0) ≡ false) × OffsetsThere Four bytes r (r.start + lo) n
ReachThere (FixedSizeList p) bytes r lo n = ((r.cnt == 0) ≡ false) × (r.start + lo + n < 2 ^ 32) × (p * (r.start + lo) + p * n < 2 ^ 32) × (p * (r.start + lo + n) ≡ p * (r.start + lo) + p * n)
ReachThere (RunEnd w) bytes r lo n = ((r.cnt == 0) ≡ false) × RunEndsThere w bytes r (r.start + lo) n
ReachThere t bytes r lo n = Unit {0}

-- an unmarked element can be folded whose child rows' numbers stand in a region of so many words, the first for the child row `from`
abbrev pub FoldThere : DataType → List ℕ → Record → ℕ → ℕ → ℕ → Type 0
FoldThere (Dictionary w signed) bytes r at from len =
    ElementThere w bytes r.a at × (element w bytes r.a at < child_rows bytes r 0) × (child_rows bytes r 0 < 2 ^ 32) × Within from len (element w bytes r.a at) 1
FoldThere Struct bytes r at from len = (r.cnt == 0) ≡ false → Within from len at 1
FoldThere (ListOf w) bytes r at from len = OffsetsThere w bytes r at 1 × Within from len (offset w bytes r at) (span w bytes r at)
FoldThere (ListView w) bytes r at from len =
    ElementThere w bytes r.a at × ElementThere w bytes r.b at × Within from len (element w bytes r.a at) (element w bytes r.b at)
FoldThere Map bytes r at from len = OffsetsThere Four bytes r at 1 × Within from len (offset Four bytes r at) (span Four bytes r at)
FoldThere (FixedSizeList p) bytes r at from len = Within from len (p * at) p × (p * at + p < 2 ^ 32)
FoldThere (RunEnd w) bytes r at from len = RunEndsThere w bytes r at 1 × (run_of w bytes r at < child_rows bytes r 0) × Within from len (run_of w bytes r at) 1
FoldThere t bytes r at from len = Unit {0}

-- each child of a node has `size` rows from one on, and so many words of work have room for a region of that size at a place and for each child's need behind it
pub record ChildrenFit (n : Node) (from size at work : ℕ) : Type 0 where
  pub rows : (s : ℕ) → s < child_count (Some n.t) n.column.record → from + size ≤ child_rows n.column.bytes.now n.column.record s
  pub room : (s : ℕ) → s < child_count (Some n.t) n.column.record → at + size + need n.column.bytes.now (child n.column.bytes.now n.column.record s) ≤ work

-- a table has a place for each child of a node, and no need above 2^24, which is 16 levels of 1,048,576 rows
abbrev pub NeedsThere : Node → List ℕ → Type 0
NeedsThere n needs =
    (k : ℕ) → k < child_count (Some n.t) n.column.record → (child n.column.bytes.now n.column.record k < 256) × (slice_index needs (child n.column.bytes.now n.column.record k) ≤ 16777216)
