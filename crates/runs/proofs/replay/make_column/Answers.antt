use Rattle.std.proofs.Common.{ℕ, List, length, take, drop, sym, ap, subst, ◌∙◌, arith, take-append-drop}
use Rattle.columns.specs.Open.{OthersStay}
use Rattle.runs.specs.declared.call.Lent.{Lent}
use Rattle.runs.specs.Calls.{lent_of, reply_of, stage_run}
use Rattle.runs.specs.Open.{opens}
use Rattle.runs.specs.Requests.{Request}
use Rattle.runs.specs.Runs.{selects}
use Rattle.runs.specs.State.{step, told}
use Rattle.runs.proofs.Opening.{stays_part}
use Rattle.runs.proofs.Parts.{lent_part, part_step, part_told}
use Rattle.runs.proofs.replay.make_column.Goals as goal

pub returns-clause-answer : goal.returns-clause-answer
returns-clause-answer g c =
    let es : List ℕ = c.args.entries.now in
    let ws : List ℕ = c.args.work.now in
    let room : ℕ = c.min-room.result in
    let q : Lent → Request = selects c.args.selection in
    let l = lent_part es ws c.args.lent room c.min-words.result c.min-room.ensures c.min-words.ensures in
    c.column.ensures.answer
    ∙ ap (λ (l : Lent). told (stage_run c.args.stage (take room es)) (q l)) l
    ∙ part_told c.args.stage (take room es) (drop room es) es (take-append-drop room es) (q (lent_of (length es) (length ws) c.args.lent)) (ap (λ (l : Lent). l.entries) (sym l))

pub returns-clause-state : goal.returns-clause-state
returns-clause-state g c =
    let es : List ℕ = c.args.entries.now in
    let ws : List ℕ = c.args.work.now in
    let room : ℕ = c.min-room.result in
    let q : Lent → Request = selects c.args.selection in
    let l = lent_part es ws c.args.lent room c.min-words.result c.min-room.ensures c.min-words.ensures in
    part_step c.args.stage (take room es) (drop room es) es (take-append-drop room es) (q (lent_of (length es) (length ws) c.args.lent)) (ap (λ (l : Lent). l.entries) (sym l))
    (g.S.BuildHasher.one c.args.state.now) (g.S.HashState.seeded c.args.state.now) c.column.result.0 c.column.new.entries
    (c.column.ensures.state ∙ ap (λ (l : Lent). step (g.S.BuildHasher.one c.args.state.now) (g.S.HashState.seeded c.args.state.now) (stage_run c.args.stage (take room es)) (q l)) l)

pub returns-clause-work : goal.returns-clause-work
returns-clause-work g c =
    let es : List ℕ = c.args.entries.now in
    let ws : List ℕ = c.args.work.now in
    let words : ℕ = c.min-words.result in
    let l = lent_part es ws c.args.lent c.min-room.result words c.min-room.ensures c.min-words.ensures in
    stays_part _ words ws c.column.new.work (omega (arith, c.min-words.ensures))
    (subst (λ (l : Lent). OthersStay (opens (selects c.args.selection l) (reply_of c.column.result.1)) (take words ws) c.column.new.work) l c.column.ensures.work)
