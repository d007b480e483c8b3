use Rattle.columns.proofs.Nodes.{node_bit}
use Rattle.columns.proofs.node.Node.is_marked.Goals as goal

pub is_null-requires : goal.is_null-requires
is_null-requires c reads = node_bit c.args.self.now c.args.row c.requires reads
