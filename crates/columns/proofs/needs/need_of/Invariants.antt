use Rattle.std.proofs.Common.{◌≡◌}
use Rattle.columns.specs.Jobs.{most, needs_of}
use Rattle.columns.proofs.needs.need_of.Given as goal

abbrev pub invariant-loop-index : goal.invariant-loop-index
invariant-loop-index l = l.most ≡ most (needs_of l.node.column.bytes.now l.node.column.record l.needs) l.index
