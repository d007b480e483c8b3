use Rattle.std.proofs.Common.{length}
use Rattle.columns.specs.Jobs.{plan}
use Rattle.columns.specs.Machine.{Stands, complete, left}
use Rattle.columns.proofs.walk.walk.Given as goal

abbrev pub invariant-loop-top : goal.invariant-loop-top
invariant-loop-top g l =
    let P = plan (g.S.BuildHasher.one l.state) (g.S.HashState.seeded l.state) l.node.column.bytes.now (length l.initial.work) in
    Stands P 16 l.frames l.depth l.top l.work (complete P 16 l.initial.top.job l.initial.top.stage l.initial.work)

abbrev pub decreases-loop-top : goal.decreases-loop-top
decreases-loop-top g l = left (plan (g.S.BuildHasher.one l.state) (g.S.HashState.seeded l.state) l.node.column.bytes.now (length l.initial.work)) 16 l.frames l.depth l.top
