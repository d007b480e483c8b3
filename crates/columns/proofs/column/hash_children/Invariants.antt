use Rattle.std.proofs.Common.{◌+◌}
use Rattle.columns.specs.Jobs.{Did}
use Rattle.columns.specs.Words.{through_some}
use Rattle.columns.proofs.column.hash_children.Given as goal

abbrev pub invariant-loop-stage : goal.invariant-loop-stage
invariant-loop-stage g l =
    Did l.at l.rows.size (λ i x. through_some (g.S.BuildHasher.one l.state) (g.S.HashState.seeded l.state) l.node l.stage (l.rows.from + i) x) l.initial.work l.work
