use Rattle.std.proofs.Common.{◌≡◌, ℕ, ◌+◌, ◌<◌, List, length, sym, subst, ap₂, ◌∙◌, arith, Some}
use Rattle.layout.specs.Nodes.{child, child_count}
use Rattle.image.specs.Read.{slot_at}
use Rattle.row_rule.specs.Number.{number_of}
use Rattle.columns.specs.Fold.{entry, is_first}
use Rattle.columns.specs.Jobs.{Did, opened, plan}
use Rattle.columns.specs.Machine.{Fits, complete}
use Rattle.columns.specs.Words.{through_some}
use Rattle.columns.specs.declared.job.Job.{Job}
use Rattle.columns.proofs.Children.{child_did, child_fits, children_more, children_none, job_of}
use Rattle.columns.proofs.Nodes.{node_child}
use Rattle.columns.proofs.column.hash_children.Goals as goal

pub loop-stage-init : goal.loop-stage-init
loop-stage-init g c = children_none _ _ _ _

pub enter-job-requires-clause-room : goal.enter-job-requires-clause-room
enter-job-requires-clause-room g c = omega (arith, c.requires.room c.loop-stage.stage (omega (arith, c.child_count-stage-end.ensures)), c.loop-stage.auto.work)

pub walk-requires : goal.walk-requires
walk-requires g c =
    let n = c.args.node.now in
    let B = n.column.bytes.now in
    let s : ℕ = c.loop-stage.stage in
    let below : s < child_count (Some n.t) n.column.record = omega (arith, c.child_count-stage-end.ensures) in
    let k : ℕ = child B n.column.record s in
    let ONE = g.S.BuildHasher.one c.args.state.now in
    let SEED = g.S.HashState.seeded c.args.state.now in
    subst (Fits (plan ONE SEED B (length c.enter-job.new.work)) 16) (sym c.enter-job.ensures.job)
    (child_fits ONE SEED B n.sound k c.args.rows.from c.args.rows.size c.args.at (node_child n s below).1 (c.requires.rows s below) (length c.enter-job.new.work) (is_first s)
    (omega (arith, c.requires.room s below, c.loop-stage.auto.work, c.enter-job.auto.work)))

pub loop-stage-preserved : goal.loop-stage-preserved
loop-stage-preserved g c =
    let n = c.args.node.now in
    let B = n.column.bytes.now in
    let s : ℕ = c.loop-stage.stage in
    let w : List ℕ = c.loop-stage.work in
    let below : s < child_count (Some n.t) n.column.record = omega (arith, c.child_count-stage-end.ensures) in
    let k : ℕ = child B n.column.record s in
    let at : ℕ = c.args.at in
    let from : ℕ = c.args.rows.from in
    let size : ℕ = c.args.rows.size in
    let ONE = g.S.BuildHasher.one c.args.state.now in
    let SEED = g.S.HashState.seeded c.args.state.now in
    let done : Job → List ℕ → List ℕ = λ j v. complete (plan ONE SEED B (length v)) 16 j 0 v in
    let told : c.walk.new.work ≡ done (job_of k from size at (is_first s)) (opened at size s w) =
    c.walk.ensures ∙ ap₂ done c.enter-job.ensures.job c.enter-job.ensures.words in
    children_more at size s _ c.args.work.now w c.walk.new.work c.loop-stage.invariant
    (subst (Did at size (λ i x. number_of ONE SEED (is_first s) (entry s x) (slot_at B k (from + i))) w) (sym told)
    (child_did ONE SEED B n.sound k from size at (node_child n s below).1 (c.requires.rows s below) s w (omega (arith, c.requires.room s below, c.loop-stage.auto.work))))

pub returns : goal.returns
returns g c =
    let n = c.args.node.now in
    let end : c.loop-stage.stage ≡ child_count (Some n.t) n.column.record = omega (arith, c.child_count-stage-end.ensures) in
    subst (λ (m : ℕ). Did c.args.at c.args.rows.size
    (λ i x. through_some (g.S.BuildHasher.one c.args.state.now) (g.S.HashState.seeded c.args.state.now) n m (c.args.rows.from + i) x)
    c.args.work.now c.loop-stage.work) end c.loop-stage.invariant
