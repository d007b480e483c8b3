use Rattle.std.proofs.Common.{ℕ, ◌+◌, List, length, refl, ◌∙◌, arith, Some}
use Rattle.layout.specs.declared.data_type.DataType.{DataType}
use Rattle.layout.specs.declared.record.Record.{Record}
use Rattle.layout.specs.Nodes.{child_count}
use Rattle.columns.specs.Jobs.{child_at, ended, opened, plan, region}
use Rattle.columns.proofs.Nodes.{at_node}
use Rattle.columns.proofs.Machine as machine
use Rattle.columns.proofs.walk.walk.Goals as goal

count_of : List ℕ → DataType → Record → ℕ
count_of b t r = child_count (Some t) r

pub loop-top-init : goal.loop-top-init
loop-top-init g c =
    machine.stands_first (plan (g.S.BuildHasher.one c.args.state.now) (g.S.HashState.seeded c.args.state.now) c.args.node.now.column.bytes.now (length c.args.work.now)) 16 _ _ c.args.work.now refl c.requires

pub loop-top-preserved-then-top-child_count : goal.loop-top-preserved-then-top-child_count
unfolding count_of
loop-top-preserved-then-top-child_count g c =
    let P = plan (g.S.BuildHasher.one c.args.state.now) (g.S.HashState.seeded c.args.state.now) c.args.node.now.column.bytes.now (length c.args.work.now) in
    let n = c.other-here.result in
    let B = c.args.node.now.column.bytes.now in
    let j = c.loop-top.top.job in
    let s : ℕ = c.loop-top.top.stage in
    let count = at_node count_of n B j.node c.other-here.ensures.bytes c.other-here.ensures.number in
    machine.stands_push P 16 c.loop-top.frames c.loop-top.depth c.loop-top.top c.loop-top.work c.enter_behind-job.new.work _ c.loop-top.invariant _ _ (omega (arith, count)) refl refl
    (c.enter_behind-job.ensures.job ∙ at_node (λ b t r. child_at b t r j s) n B j.node c.other-here.ensures.bytes c.other-here.ensures.number)
    refl
    (c.enter_behind-job.ensures.words ∙ at_node (λ b t r. opened (j.at + j.n) (region t b r j.lo j.n) s c.loop-top.work) n B j.node c.other-here.ensures.bytes c.other-here.ensures.number)

pub loop-top-smaller-then-top-child_count : goal.loop-top-smaller-then-top-child_count
unfolding count_of
loop-top-smaller-then-top-child_count g c =
    let P = plan (g.S.BuildHasher.one c.args.state.now) (g.S.HashState.seeded c.args.state.now) c.args.node.now.column.bytes.now (length c.args.work.now) in
    let n = c.other-here.result in
    let B = c.args.node.now.column.bytes.now in
    let j = c.loop-top.top.job in
    let s : ℕ = c.loop-top.top.stage in
    let count = at_node count_of n B j.node c.other-here.ensures.bytes c.other-here.ensures.number in
    machine.falls_push P 16 c.loop-top.frames c.loop-top.depth c.loop-top.top c.loop-top.work c.loop-top.work _ c.loop-top.invariant _ _ (omega (arith, count)) refl refl
    (c.enter_behind-job.ensures.job ∙ at_node (λ b t r. child_at b t r j s) n B j.node c.other-here.ensures.bytes c.other-here.ensures.number)
    refl

pub loop-top-preserved : goal.loop-top-preserved
unfolding count_of
loop-top-preserved g c =
    let ONE = g.S.BuildHasher.one c.args.state.now in
    let SEED = g.S.HashState.seeded c.args.state.now in
    let P = plan ONE SEED c.args.node.now.column.bytes.now (length c.args.work.now) in
    let n = c.other-here.result in
    let B = c.args.node.now.column.bytes.now in
    let j = c.loop-top.top.job in
    let count = at_node count_of n B j.node c.other-here.ensures.bytes c.other-here.ensures.number in
    machine.stands_pop P 16 c.loop-top.frames c.loop-top.depth c.loop-top.top c.loop-top.work c.leave.new.work _ c.loop-top.invariant (omega (arith, count)) (omega arith)
    (c.leave.ensures ∙ at_node (λ b t r. ended ONE SEED b t r j c.loop-top.work) n B j.node c.other-here.ensures.bytes c.other-here.ensures.number)

pub loop-top-smaller : goal.loop-top-smaller
unfolding count_of
loop-top-smaller g c =
    let P = plan (g.S.BuildHasher.one c.args.state.now) (g.S.HashState.seeded c.args.state.now) c.args.node.now.column.bytes.now (length c.args.work.now) in
    let n = c.other-here.result in
    let B = c.args.node.now.column.bytes.now in
    let j = c.loop-top.top.job in
    let count = at_node count_of n B j.node c.other-here.ensures.bytes c.other-here.ensures.number in
    machine.falls_pop P 16 c.loop-top.frames c.loop-top.depth c.loop-top.top c.loop-top.work c.loop-top.work _ c.loop-top.invariant (omega (arith, count)) (omega arith)

pub returns-then-depth-eq0 : goal.returns-then-depth-eq0
unfolding count_of
returns-then-depth-eq0 g c =
    let ONE = g.S.BuildHasher.one c.args.state.now in
    let SEED = g.S.HashState.seeded c.args.state.now in
    let P = plan ONE SEED c.args.node.now.column.bytes.now (length c.args.work.now) in
    let n = c.other-here.result in
    let B = c.args.node.now.column.bytes.now in
    let j = c.loop-top.top.job in
    let count = at_node count_of n B j.node c.other-here.ensures.bytes c.other-here.ensures.number in
    machine.stands_done P 16 c.loop-top.frames c.loop-top.depth c.loop-top.top c.loop-top.work c.leave.new.work _ c.loop-top.invariant (omega (arith, count)) (omega arith)
    (c.leave.ensures ∙ at_node (λ b t r. ended ONE SEED b t r j c.loop-top.work) n B j.node c.other-here.ensures.bytes c.other-here.ensures.number)
