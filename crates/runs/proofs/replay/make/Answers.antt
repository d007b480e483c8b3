use Rattle.std.proofs.Common.{ℕ, List, length, Some, refl, sym, subst, ap, ◌∙◌}
use Rattle.runs.specs.declared.call.Call.{Call}
use Rattle.runs.specs.Calls.{Made, lent_of, request_of, stage_run}
use Rattle.runs.specs.Requests.{Request, column}
use Rattle.runs.specs.Runs.{list_of}
use Rattle.runs.specs.State.{State, step, told}
use Rattle.runs.proofs.replay.make.Goals as goal

pub returns-in-Column-clause-made : goal.returns-in-Column-clause-made
returns-in-Column-clause-made g c =
    let ONE = g.S.BuildHasher.one c.args.state.now in
    let SEED = g.S.HashState.seeded c.args.state.now in
    let k = c.in-Column in
    let made = c.make_column-stage in
    let entries : ℕ = length c.args.entries.now in
    let work : ℕ = length c.args.work.now in
    let s : State = stage_run c.args.stage c.args.entries.now in
    let q : List ℕ → Request = λ bytes. column (record { bytes = bytes; node = k.node }) (list_of k.list) (lent_of entries work k.lent) in
    subst (λ (call : Call). Made ONE SEED s (request_of c.args.images.now entries work call) (Some made.result.1) (stage_run made.result.0 made.new.entries)) (sym k.is)
    ((refl, made.ensures.answer ∙ ap (λ (b : List ℕ). told s (q b)) c.image_at-image.ensures), made.ensures.state ∙ ap (λ (b : List ℕ). step ONE SEED s (q b)) c.image_at-image.ensures)

pub returns-in-Keep-clause-made : goal.returns-in-Keep-clause-made
returns-in-Keep-clause-made g c =
    let ONE = g.S.BuildHasher.one c.args.state.now in
    let SEED = g.S.HashState.seeded c.args.state.now in
    let made = c.make_keep-stage in
    subst (λ (call : Call). Made ONE SEED (stage_run c.args.stage c.args.entries.now) (request_of c.args.images.now (length c.args.entries.now) (length c.args.work.now) call) (Some made.result.1) (stage_run made.result.0 made.new.entries)) (sym c.in-Keep.is)
    ((refl, made.ensures.answer), made.ensures.state ONE SEED)
