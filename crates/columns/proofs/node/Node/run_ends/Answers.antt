use Rattle.std.proofs.Common.{ℕ, ◌+◌, ◌*◌, ◌≤◌, length, sym, subst}
use Rattle.layout.specs.Bytes.{wide}
use Rattle.columns.proofs.Nodes.{node_run_ends}
use Rattle.columns.proofs.node.Node.run_ends.Goals as goal

pub child_rows-requires : goal.child_rows-requires
child_rows-requires c = (node_run_ends c.args.self.now c.args.width c.requires).0

pub invariant_of-result : goal.invariant_of-result
invariant_of-result c =
    let n = c.args.self.now in
    let there = node_run_ends n c.args.width c.requires in
    record {
      counted = c.child_rows.ensures;
      inside = subst (λ (k : ℕ). n.column.record.a + wide c.args.width * k ≤ length n.column.bytes.now) (sym c.child_rows.ensures) there.1;
      rising = there.2;
    }
