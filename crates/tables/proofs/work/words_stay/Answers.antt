use Rattle.std.proofs.Common.{refl}
use Rattle.tables.specs.Work.{EndsStay}
use Rattle.tables.proofs.work.words_stay.Goals as goal

ends : EndsStay
ends new stay = (stay.0, stay.1 0 refl, stay.1 3 refl)

pub returns-clause-ends : goal.returns-clause-ends
returns-clause-ends c = ends
