use Rattle.std.proofs.Common.{sym, ap, ◌∙◌}
use Rattle.runs.specs.declared.call.Stage.{Stage}
use Rattle.runs.specs.Calls.{stage_run}
use Rattle.runs.specs.Requests.{keep}
use Rattle.runs.specs.Runs.{lent}
use Rattle.runs.specs.State.{step}
use Rattle.runs.proofs.call.Stage.keep.Goals as goal

pub returns-in-New-clause-state : goal.returns-in-New-clause-state
returns-in-New-clause-state c = λ ONE SEED.
    c.keep.ensures.state ONE SEED
    ∙ sym (ap (λ (s : Stage). step ONE SEED (stage_run s c.args.entries.now) (keep c.args.list.now (lent c.args.entries.now c.args.work.now c.args.account.now))) c.in-New.is)

pub returns-in-Begun-clause-state : goal.returns-in-Begun-clause-state
returns-in-Begun-clause-state c = λ ONE SEED.
    c.keep-in-Begun.ensures.state ONE SEED
    ∙ sym (ap (λ (s : Stage). step ONE SEED (stage_run s c.args.entries.now) (keep c.args.list.now (lent c.args.entries.now c.args.work.now c.args.account.now))) c.in-Begun.is)
