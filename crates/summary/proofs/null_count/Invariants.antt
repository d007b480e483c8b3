use Rattle.std.proofs.Common.{◌≡◌, ◌≤◌}
use Rattle.summary.specs.Nulls.{count_below, is_null}
use Rattle.summary.proofs.null_count.Given as goal

abbrev pub invariant-loop-row : goal.invariant-loop-row
invariant-loop-row l = (l.count ≡ count_below l.row (is_null l.image.bytes.now l.r)) × (l.count ≤ l.row)
