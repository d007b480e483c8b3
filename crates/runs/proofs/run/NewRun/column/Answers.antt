use Rattle.std.proofs.Common.{ℕ, Option, refl, ap}
use Rattle.runs.specs.Refusals.{unless}
use Rattle.runs.specs.Requests.{accepted, refused}
use Rattle.runs.specs.Runs.{asked, new_run}
use Rattle.runs.proofs.Agreeing.{follows}
use Rattle.runs.proofs.Steps.{step_made, step_refused}
use Rattle.runs.proofs.run.NewRun.column.Goals as goal

pub returns-in-Ok-clause-state : goal.returns-in-Ok-clause-state
returns-in-Ok-clause-state g c =
    step_made _ _ (new_run c.args.self c.args.entries.now) (asked c.args.selection c.args.entries.now c.args.work.now c.args.account.now)
    c.lead_rows.new.entries c.lead_rows.ensures.entries _ _ c.in-Ok.ensures.fault refl refl

pub returns-in-Err-clause-state : goal.returns-in-Err-clause-state
returns-in-Err-clause-state g c =
    step_refused _ _ (new_run c.args.self c.args.entries.now) (asked c.args.selection c.args.entries.now c.args.work.now c.args.account.now)
    c.lead_rows.new.entries c.lead_rows.ensures.entries _ c.in-Err.ensures.fault

pub returns-in-Ok-clause-ledger : goal.returns-in-Ok-clause-ledger
returns-in-Ok-clause-ledger g c =
    follows _ _ (new_run c.args.self c.args.entries.now) (asked c.args.selection c.args.entries.now c.args.work.now c.args.account.now) _ _
    (ap (λ (o : Option ℕ). unless o refused accepted) c.in-Ok.ensures.fault) (returns-in-Ok-clause-state g c)

pub returns-in-Err-clause-ledger : goal.returns-in-Err-clause-ledger
returns-in-Err-clause-ledger g c =
    follows _ _ (new_run c.args.self c.args.entries.now) (asked c.args.selection c.args.entries.now c.args.work.now c.args.account.now) _ _
    (ap (λ (o : Option ℕ). unless o refused accepted) c.in-Err.ensures.fault) (returns-in-Err-clause-state g c)
