use Rattle.std.proofs.Common.{ℕ, ◌<◌, sym, subst}
use Rattle.layout.specs.Records.{nodes}
use Rattle.columns.proofs.Nodes.{node_child}
use Rattle.columns.proofs.node.Node.child.Goals as goal

pub child-requires : goal.child-requires
child-requires c = (node_child c.args.self.now c.args.index c.requires).0

pub other-requires : goal.other-requires
other-requires c =
    let n = c.args.self.now in
    subst (λ (k : ℕ). k < nodes n.column.bytes.now) (sym c.child.ensures) (node_child n c.args.index c.requires).1
