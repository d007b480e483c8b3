use Rattle.std.proofs.Common.{◌<◌, arith}
use Rattle.layout.specs.Nodes.{child_count}
use Rattle.layout.specs.Types.{data_type}
use Rattle.image.proofs.Children.{child_readable}
use Rattle.image.proofs.place.Image.child.Goals as goal

pub child-requires : goal.child-requires
child-requires c =
    let r = c.in_ok-record.record in
    let there : c.args.index < child_count (data_type r) r = omega arith in
    child_readable c.args.self.now.bytes.now c.args.node r c.in_ok-record.ensures c.args.self.now.sound c.args.index there
