use Rattle.columns.proofs.Nodes.{node_reach}
use Rattle.columns.proofs.node.Node.reach.Goals as goal

pub reach_there-requires : goal.reach_there-requires
reach_there-requires c = node_reach c.args.self.now c.args.rows.from c.args.rows.size c.requires
