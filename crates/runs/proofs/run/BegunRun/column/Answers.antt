use Rattle.std.proofs.Common.{ℕ, Option, refl, sym, ap, arith, rules, ◌≡◌}
use Rattle.std.proofs.lemmas.Bool.{eqb-false}
use Rattle.runs.specs.Refusals.{unless}
use Rattle.runs.specs.Requests.{accepted, refused}
use Rattle.runs.specs.Runs.{asked, begun_run, column_of, done_reply, lent, list_of}
use Rattle.runs.specs.State.{told}
use Rattle.runs.proofs.Agreeing.{follows}
use Rattle.runs.proofs.Going.{column_goes}
use Rattle.runs.proofs.Steps.{step_made, step_refused}
use Rattle.runs.proofs.run.BegunRun.column.Goals as goal

pub overflow_add-self : goal.overflow_add-self
overflow_add-self g c =
    let goes = column_goes c.args.self.now.rows c.args.self.now.count (column_of c.args.selection) (list_of c.args.selection.list) (lent c.args.entries.now c.args.work.now c.args.account.now) (sym c.in_ok-lead_rows.ensures.fault) in
    let more = eqb-false c.args.self.now.count 255 goes.one_more in
    omega (arith, more, c.fits-self)

pub returns-clause-state : goal.returns-clause-state
returns-clause-state g c =
    step_made _ _ (begun_run c.args.self.now c.args.entries.now) (asked c.args.selection c.args.entries.now c.args.work.now c.args.account.now)
    c.lead_rows.new.entries c.lead_rows.ensures.entries _ _ c.in_ok-lead_rows.ensures.fault refl refl

pub returns-in_err-lead_rows-clause-state : goal.returns-in_err-lead_rows-clause-state
returns-in_err-lead_rows-clause-state g c =
    step_refused _ _ (begun_run c.args.self.now c.args.entries.now) (asked c.args.selection c.args.entries.now c.args.work.now c.args.account.now)
    c.lead_rows.new.entries c.lead_rows.ensures.entries _ c.in_err-lead_rows.ensures.fault

pub returns-clause-ledger : goal.returns-clause-ledger
returns-clause-ledger g c =
    follows _ _ (begun_run c.args.self.now c.args.entries.now) (asked c.args.selection c.args.entries.now c.args.work.now c.args.account.now) _ _
    (ap (λ (o : Option ℕ). unless o refused accepted) c.in_ok-lead_rows.ensures.fault) (returns-clause-state g c)

pub returns-in_err-lead_rows-clause-ledger : goal.returns-in_err-lead_rows-clause-ledger
returns-in_err-lead_rows-clause-ledger g c =
    let told_so : done_reply c.from_residual.result ≡ told (begun_run c.args.self.now c.args.entries.now) (asked c.args.selection c.args.entries.now c.args.work.now c.args.account.now) = search rules in
    follows _ _ (begun_run c.args.self.now c.args.entries.now) (asked c.args.selection c.args.entries.now c.args.work.now c.args.account.now) _ _
    told_so (returns-in_err-lead_rows-clause-state g c)
