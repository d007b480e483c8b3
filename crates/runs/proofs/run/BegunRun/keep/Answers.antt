use Rattle.std.proofs.Common.{ℕ, Option, ap, rules}
use Rattle.runs.specs.Refusals.{unless}
use Rattle.runs.specs.Requests.{keep, accepted, refused}
use Rattle.runs.specs.Runs.{begun_run, lent}
use Rattle.runs.proofs.Agreeing.{follows}
use Rattle.runs.proofs.run.BegunRun.keep.Goals as goal

pub returns-clause-ledger : goal.returns-clause-ledger
returns-clause-ledger c = λ ONE SEED.
    follows ONE SEED (begun_run c.args.self.now c.args.entries.now) (keep c.args.list.now (lent c.args.entries.now c.args.work.now c.args.account.now)) _ _
    (ap (λ (o : Option ℕ). unless o refused accepted) c.in_ok-self.ensures.fault) (search rules)
