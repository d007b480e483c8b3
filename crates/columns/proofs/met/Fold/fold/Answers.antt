use Rattle.std.proofs.Common.{refl, arith}
use Rattle.layout.specs.declared.data_type.DataType.TheVariants.{RunEnd}
use Rattle.columns.proofs.Nodes.{refers_to_child}
use Rattle.columns.proofs.met.Fold.fold.Goals as goal

pub of-rows-requires : goal.of-rows-requires
of-rows-requires c = refers_to_child c.args.self.now.met.node (RunEnd c.in-RunEnd.width) c.in-RunEnd.is refl (λ one. omega arith)
