use Rattle.std.proofs.Common.{arith}
use Rattle.runs.proofs.Lists.{below_at}
use Rattle.runs.proofs.keep.gather.Goals as goal

pub bounds-entries-row : goal.bounds-entries-row
bounds-entries-row c = below_at _ c.args.list.now c.loop-j.j c.requires.there (omega (arith, c.loop-j-test.true))
