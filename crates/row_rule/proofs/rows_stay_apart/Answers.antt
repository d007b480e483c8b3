use Rattle.row_rule.proofs.Apart.{stays_apart}
use Rattle.row_rule.proofs.rows_stay_apart.Goals as goal

pub returns-clause-apart : goal.returns-clause-apart
returns-clause-apart c = stays_apart
