use Rattle.row_rule.proofs.Below.{stays_below}
use Rattle.row_rule.proofs.numbers_stay_below.Goals as goal

pub returns-clause-below : goal.returns-clause-below
returns-clause-below c = stays_below
