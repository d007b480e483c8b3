use Rattle.runs.proofs.Agreeing.{agrees_begun}
use Rattle.runs.proofs.run.NewRun.begin.Goals as goal

pub returns-clause-ledger : goal.returns-clause-ledger
returns-clause-ledger c = λ ONE SEED. agrees_begun ONE SEED c.args.entries.now
