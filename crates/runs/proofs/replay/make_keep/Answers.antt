use Rattle.std.proofs.Common.{ℕ, List, length, take, drop, sym, ap, subst, ◌∙◌, arith, take-append-drop}
use Rattle.columns.specs.Open.{OthersStay}
use Rattle.runs.specs.declared.call.Lent.{Lent}
use Rattle.runs.specs.Calls.{lent_of, reply_of, stage_run}
use Rattle.runs.specs.Open.{opens}
use Rattle.runs.specs.Requests.{Request, keep}
use Rattle.runs.specs.State.{step, told}
use Rattle.runs.proofs.Opening.{stays_part}
use Rattle.runs.proofs.Parts.{lent_part, part_step, part_told}
use Rattle.runs.proofs.replay.make_keep.Goals as goal

pub returns-clause-answer : goal.returns-clause-answer
returns-clause-answer c =
    let es : List ℕ = c.args.entries.now in
    let ws : List ℕ = c.args.work.now in
    let room : ℕ = c.min-room.result in
    let q : Lent → Request = keep c.args.list.now in
    let l = lent_part es ws c.args.lent room c.min-words.result c.min-room.ensures c.min-words.ensures in
    c.keep.ensures.answer
    ∙ ap (λ (l : Lent). told (stage_run c.args.stage (take room es)) (q l)) l
    ∙ part_told c.args.stage (take room es) (drop room es) es (take-append-drop room es) (q (lent_of (length es) (length ws) c.args.lent)) (ap (λ (l : Lent). l.entries) (sym l))

pub returns-clause-state : goal.returns-clause-state
returns-clause-state c = λ ONE SEED.
    let es : List ℕ = c.args.entries.now in
    let ws : List ℕ = c.args.work.now in
    let room : ℕ = c.min-room.result in
    let q : Lent → Request = keep c.args.list.now in
    let l = lent_part es ws c.args.lent room c.min-words.result c.min-room.ensures c.min-words.ensures in
    part_step c.args.stage (take room es) (drop room es) es (take-append-drop room es) (q (lent_of (length es) (length ws) c.args.lent)) (ap (λ (l : Lent). l.entries) (sym l))
    ONE SEED c.keep.result.0 c.keep.new.entries
    (c.keep.ensures.state ONE SEED ∙ ap (λ (l : Lent). step ONE SEED (stage_run c.args.stage (take room es)) (q l)) l)

pub returns-clause-work : goal.returns-clause-work
returns-clause-work c =
    let es : List ℕ = c.args.entries.now in
    let ws : List ℕ = c.args.work.now in
    let words : ℕ = c.min-words.result in
    let l = lent_part es ws c.args.lent c.min-room.result words c.min-room.ensures c.min-words.ensures in
    stays_part _ words ws c.keep.new.work (omega (arith, c.min-words.ensures))
    (subst (λ (l : Lent). OthersStay (opens (keep c.args.list.now l) (reply_of c.keep.result.1)) (take words ws) c.keep.new.work) l c.keep.ensures.work)
