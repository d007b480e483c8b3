use Rattle.std.proofs.Common.{◌≡◌, ◌%◌, length}
use Rattle.hash_state.specs.Fnv.{fnv1a}
use Rattle.hash_state.proofs.fnv.hashed_string.Given as goal

abbrev pub invariant-loop-rest : goal.invariant-loop-rest
invariant-loop-rest l = (length l.rest % 2 ≡ 0) × (fnv1a l.hash l.rest ≡ fnv1a l.fn.hash l.fn.bytes)

abbrev pub decreases-loop-rest : goal.decreases-loop-rest
decreases-loop-rest l = length l.rest
