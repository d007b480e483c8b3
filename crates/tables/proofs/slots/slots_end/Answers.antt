use Rattle.std.proofs.Common.{lit<}
use Rattle.tables.specs.Slots.{NoneDeeper}
use Rattle.tables.proofs.slots.slots_end.Goals as goal

deeper : NoneDeeper
deeper more = (λ law. law (lit< tt) more, λ law. law (lit< tt) more)

pub returns-clause-deeper : goal.returns-clause-deeper
returns-clause-deeper c = deeper
