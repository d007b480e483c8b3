use Rattle.std.proofs.Common.{◌≡◌, ℕ, ◌<◌, List, length, map, take, drop, min, refl, sym, subst, ◌∙◌, arith, length-set}
use Rattle.runs.specs.Calls.{begin_rows, reply_of, requests_of, stage_run, taken_entries}
use Rattle.runs.specs.Lasting.{Lasting, begun_state}
use Rattle.runs.specs.Requests.{Request}
use Rattle.runs.proofs.Replaying.{begin_agrees, begin_few, lasting, length-requests_of, reached_end, taken_below, turn_made, turn_misuse, turn_stays}
use Rattle.runs.proofs.replay.make_all.Goals as goal

pub loop-made-preserved : goal.loop-made-preserved
loop-made-preserved g c =
    let a = c.args in
    let loop = c.loop-made in
    let inv = loop.invariant in
    let next = c.make-next in
    let below : loop.made < min (length a.trace.calls.now) (length a.answers.now) = omega (arith, c.loop-made-test.true, c.min-count.ensures) in
    record {
      places = length-set loop.answers loop.made c.in-Some.answer ∙ inv.places;
      words = inv.words;
      reached =
          turn_made a.trace a.entries.now a.work.now a.answers.now _ _ _ _ _ loop.made _ _ _ inv.reached below _ _ refl
          (length loop.entries) (length loop.work) loop.auto.entries loop.auto.work next.result.1 next.ensures.made inv.places c.in-Some.answer c.in-Some.is;
      stays =
          turn_stays a.trace a.entries.now a.work.now a.answers.now _ _ _ _ _ loop.made _ _ _ inv.reached below _ _ refl
          (length loop.entries) (length loop.work) loop.auto.entries loop.auto.work next.result.1 next.ensures.made inv.places c.in-Some.answer c.in-Some.is
          a.work.now loop.work next.new.work inv.stays next.ensures.work;
    }

pub returns-in_default-clause-made : goal.returns-in_default-clause-made
returns-in_default-clause-made g c =
    let a = c.args in
    let loop = c.loop-made in
    let next = c.make-next in
    let below : loop.made < min (length a.trace.calls.now) (length a.answers.now) = omega (arith, c.loop-made-test.true, c.min-count.ensures) in
    (turn_misuse a.trace a.entries.now a.work.now a.answers.now _ _ _ _ _ loop.made _ _ _ loop.invariant.reached below _ _ refl
    (length loop.entries) (length loop.work) loop.auto.entries loop.auto.work next.result.1 next.ensures.made c.in_default.is).0

pub returns-in_default-clause-lasting : goal.returns-in_default-clause-lasting
returns-in_default-clause-lasting g c =
    let a = c.args in
    let loop = c.loop-made in
    let next = c.make-next in
    let below : loop.made < min (length a.trace.calls.now) (length a.answers.now) = omega (arith, c.loop-made-test.true, c.min-count.ensures) in
    let turn =
    turn_misuse a.trace a.entries.now a.work.now a.answers.now _ _ _ _ _ loop.made _ _ _ loop.invariant.reached below _ _ refl
    (length loop.entries) (length loop.work) loop.auto.entries loop.auto.work next.result.1 next.ensures.made c.in_default.is in
    lasting _ _ _ _ _ _ _ (g.met.S.BuildHasher.one_below a.state.now) (g.met.S.HashState.seeded_below a.state.now)
    (begin_few a.trace a.entries.now (omega (arith, c.requires, a.run.bounded))) (taken_below (begin_rows a.trace a.entries.now) a.entries.now loop.invariant.words) _ _ _ turn.1

pub returns-in_default-clause-behind : goal.returns-in_default-clause-behind
returns-in_default-clause-behind g c = c.loop-made.invariant.reached.others

pub returns-clause-made : goal.returns-clause-made
returns-clause-made g c =
    let a = c.args in
    let loop = c.loop-made in
    let n : loop.made ≡ c.min-count.result = omega (arith, loop.auto.made-end) in
    let all = length-requests_of a.trace a.entries.now a.work.now a.answers.now in
    sym n ∙ reached_end _ _ _ _ _ _ _ loop.made _ _ loop.invariant.reached (omega (arith, n, all, c.min-count.ensures))

pub returns-clause-lasting : goal.returns-clause-lasting
returns-clause-lasting g c =
    let a = c.args in
    let loop = c.loop-made in
    let n : loop.made ≡ c.min-count.result = omega (arith, loop.auto.made-end) in
    let ONE = g.S.BuildHasher.one a.state.now in
    let SEED = g.S.HashState.seeded a.state.now in
    let requests : List Request = requests_of a.trace a.entries.now a.work.now a.answers.now in
    subst (λ (i : ℕ). Lasting ONE SEED (taken_entries a.trace a.entries.now) (begun_state (begin_rows a.trace a.entries.now) a.entries.now) (take i requests) (map reply_of (take i loop.answers)) (stage_run loop.stage loop.entries)) n
    (lasting ONE SEED _ _ requests a.answers.now (begin_agrees ONE SEED a.trace a.entries.now) (g.met.S.BuildHasher.one_below a.state.now) (g.met.S.HashState.seeded_below a.state.now)
    (begin_few a.trace a.entries.now (omega (arith, c.requires, a.run.bounded))) (taken_below (begin_rows a.trace a.entries.now) a.entries.now loop.invariant.words) loop.made _ loop.answers loop.invariant.reached)

pub returns-clause-behind : goal.returns-clause-behind
returns-clause-behind g c =
    let loop = c.loop-made in
    let n : loop.made ≡ c.min-count.result = omega (arith, loop.auto.made-end) in
    subst (λ (i : ℕ). drop i loop.answers ≡ drop i c.args.answers.now) n loop.invariant.reached.others
