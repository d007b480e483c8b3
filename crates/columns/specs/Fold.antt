-- A row of a node with children, by the numbers of its children's rows.
use Rattle.std.specs.Prelude.{ℕ, zero, suc, ◌+◌, ◌*◌, Bool, true, false, cond, ◌&&◌, List, ◌==◌}
use Rattle.layout.specs.declared.bytes.Width.TheVariants.{Four}
use Rattle.layout.specs.declared.record.Record.{Record}
use Rattle.layout.specs.declared.data_type.DataType.{DataType}
use Rattle.layout.specs.declared.data_type.DataType.TheVariants.{Dictionary, Struct, List as ListOf, ListView, Map, FixedSizeList, RunEnd}
use Rattle.layout.specs.Nodes.{child, element, marked, reads_nulls, typed_mark}
use Rattle.layout.specs.Records.{record_at}
use Rattle.layout.specs.Types.{data_type}
use Rattle.hash_state.specs.Combine.{C}
use Rattle.image.specs.Read.{offset, run_of, span}
use Rattle.row_rule.specs.Number.{combined}

-- numbers combined one after the other: `count` of them, from a child row on
unfoldable pub combined_all : (ℕ → ℕ) → ℕ → ℕ → ℕ → ℕ
combined_all v e from zero = e
combined_all v e from (suc count) = combined_all v (C e (v from)) (from + 1) count

-- whether a row of the node of a number is marked null by its own bitmap
abbrev pub is_marked : List ℕ → ℕ → ℕ → Bool
is_marked bytes node row = typed_mark (data_type (record_at bytes node)) bytes (record_at bytes node) row

-- a reference to a child row: the entry where that is marked null, else its number
abbrev pub referred : List ℕ → Record → (ℕ → ℕ) → Bool → ℕ → ℕ → ℕ
referred bytes r v first e q = cond (is_marked bytes (child bytes r 0) q) e (combined first e (v q))

-- the number of an unmarked row, where v gives the numbers of child rows
abbrev pub folded : DataType → List ℕ → Record → (ℕ → ℕ) → Bool → ℕ → ℕ → ℕ
folded (Dictionary w signed) bytes r v first e at = referred bytes r v first e (element w bytes r.a at)
folded Struct bytes r v first e at = C e (cond (r.cnt == 0) 0 (v at))
folded (ListOf w) bytes r v first e at = combined_all v e (offset w bytes r at) (span w bytes r at)
folded (ListView w) bytes r v first e at = combined_all v e (element w bytes r.a at) (element w bytes r.b at)
folded Map bytes r v first e at = combined_all v e (offset Four bytes r at) (span Four bytes r at)
folded (FixedSizeList p) bytes r v first e at = combined_all v e (p * at) p
folded (RunEnd w) bytes r v first e at = referred bytes r v first e (run_of w bytes r at)
folded t bytes r v first e at = e

-- the number of a row: its entry where it is marked null
abbrev pub row_number : DataType → List ℕ → Record → (ℕ → ℕ) → Bool → ℕ → ℕ → ℕ
row_number t bytes r v first e row = cond (reads_nulls t && marked bytes r row) e (folded t bytes r v first e (r.start + row))

-- a child is hashed as first where it is child 0
abbrev pub is_first : ℕ → Bool
is_first zero = true
is_first (suc s) = false

-- child 0 starts from 0, the others from where the one before came to
abbrev pub entry : ℕ → ℕ → ℕ
entry zero x = 0
entry (suc s) x = x

-- g at each of the m numbers from s on, in turn
unfoldable pub through : (ℕ → ℕ → ℕ) → ℕ → ℕ → ℕ → ℕ
through g zero s x = x
through g (suc m) s x = through g m (s + 1) (g s x)
