use Rattle.std.proofs.Common.{◌≡◌, drop}
use Rattle.runs.specs.Columns.{all_below}
use Rattle.runs.proofs.judge.check_list.Given as goal

abbrev pub invariant-loop-row : goal.invariant-loop-row
invariant-loop-row l = all_below l.bound l.list ≡ all_below l.bound (drop l.row-index l.list)
