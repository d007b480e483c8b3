use Rattle.std.proofs.Common.{sym, ap, ◌∙◌}
use Rattle.runs.specs.declared.call.Stage.{Stage}
use Rattle.runs.specs.Calls.{stage_run}
use Rattle.runs.specs.Runs.{asked}
use Rattle.runs.specs.State.{step, told}
use Rattle.runs.proofs.call.Stage.column.Goals as goal

pub returns-in-Ok-clause-answer : goal.returns-in-Ok-clause-answer
returns-in-Ok-clause-answer g c =
    c.in-Ok.ensures.answer
    ∙ sym (ap (λ (s : Stage). told (stage_run s c.args.entries.now) (asked c.args.selection c.args.entries.now c.args.work.now c.args.account.now)) c.in-New.is)

pub returns-in-Ok-clause-state : goal.returns-in-Ok-clause-state
returns-in-Ok-clause-state g c =
    c.in-Ok.ensures.state
    ∙ sym (ap (λ (s : Stage). step (g.S.BuildHasher.one c.args.state.now) (g.S.HashState.seeded c.args.state.now) (stage_run s c.args.entries.now) (asked c.args.selection c.args.entries.now c.args.work.now c.args.account.now)) c.in-New.is)

pub returns-in-Err-clause-answer : goal.returns-in-Err-clause-answer
returns-in-Err-clause-answer g c =
    c.in-Err.ensures.answer
    ∙ sym (ap (λ (s : Stage). told (stage_run s c.args.entries.now) (asked c.args.selection c.args.entries.now c.args.work.now c.args.account.now)) c.in-New.is)

pub returns-in-Err-clause-state : goal.returns-in-Err-clause-state
returns-in-Err-clause-state g c =
    c.in-Err.ensures.state
    ∙ sym (ap (λ (s : Stage). step (g.S.BuildHasher.one c.args.state.now) (g.S.HashState.seeded c.args.state.now) (stage_run s c.args.entries.now) (asked c.args.selection c.args.entries.now c.args.work.now c.args.account.now)) c.in-New.is)
