use Rattle.std.proofs.Common.{◌≡◌, ℕ, ◌+◌, max, List, get_or, ap, ◌∙◌, ap₂, add-one, arith, Some}
use Rattle.layout.specs.declared.record.Record.{Record}
use Rattle.layout.specs.Nodes.{child, child_count, child_rows}
use Rattle.layout.specs.Records.{record_at}
use Rattle.columns.specs.Jobs.{most, needs_of}
use Rattle.columns.proofs.Nodes.{node_short}
use Rattle.columns.proofs.needs.need_of.Goals as goal

pub overflow_add-child : goal.overflow_add-child
overflow_add-child c =
    let n = c.args.node.now in
    let below = c.child-child.result in
    let few = node_short below in
    let small = (c.requires c.loop-index.index (omega arith)).1 in
    let same = ap (λ (k : ℕ). get_or c.args.needs.now k 0) c.child-child.ensures.number in
    omega (arith, few.0, small, same)

pub loop-index-preserved : goal.loop-index-preserved
loop-index-preserved c =
    let n = c.args.node.now in
    let bytes = n.column.bytes.now in
    let index : ℕ = c.loop-index.index in
    let below = c.child-child.result in
    let so_far : ℕ = most (needs_of bytes n.column.record c.args.needs.now) index in
    let inv : c.loop-index.most ≡ so_far = c.loop-index.invariant in
    let rows : below.column.record.rows ≡ child_rows bytes n.column.record index =
    ap (λ (x : Record). x.rows) below.read ∙ ap₂ (λ (b : List ℕ) (k : ℕ). (record_at b k).rows) c.child-child.ensures.bytes c.child-child.ensures.number in
    let same : get_or c.args.needs.now below.number 0 ≡ get_or c.args.needs.now (child bytes n.column.record index) 0 =
    ap (λ (k : ℕ). get_or c.args.needs.now k 0) c.child-child.ensures.number in
    let made : c.max-most.result ≡ max so_far (child_rows bytes n.column.record index + get_or c.args.needs.now (child bytes n.column.record index) 0) =
    omega (arith, c.max-most.ensures, rows, same) in
    rw add-one made

pub returns : goal.returns
returns c =
    let n = c.args.node.now in
    let end : c.loop-index.index ≡ child_count (Some n.t) n.column.record = omega (arith, c.child_count-index-end.ensures) in
    c.loop-index.invariant ∙ ap (most (needs_of n.column.bytes.now n.column.record c.args.needs.now)) end
