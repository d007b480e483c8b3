use Rattle.std.proofs.Common.{◌≡◌, length}
use Rattle.admission.specs.FirstFault.{fault_below}
use Rattle.admission.specs.Seams.{Heights}
use Rattle.admission.proofs.check.check_nodes.Given as goal

abbrev pub invariant-loop-node : goal.invariant-loop-node
invariant-loop-node l = (fault_below l.bytes l.count ≡ fault_below l.bytes l.node) × Heights l.bytes l.node l.heights × (length l.heights ≡ 256)
