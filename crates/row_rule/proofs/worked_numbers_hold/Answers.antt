use Rattle.std.proofs.Common.{refl}
use Rattle.row_rule.specs.Number.{number_of}
use Rattle.row_rule.specs.Worked.{NumbersOfKinds, WorkedNumbers}
use Rattle.row_rule.proofs.worked_numbers_hold.Goals as goal

worked : WorkedNumbers
unfolding number_of
worked = refl

kinds : NumbersOfKinds
unfolding number_of
kinds = refl

pub returns-clause-worked : goal.returns-clause-worked
returns-clause-worked c = worked

pub returns-clause-kinds : goal.returns-clause-kinds
returns-clause-kinds c = kinds
