use Rattle.std.proofs.Common.{◌≡◌, length, map, take, slice_index}
use Rattle.runs.proofs.keep.gather.Given as goal

abbrev pub invariant-loop-j : goal.invariant-loop-j
invariant-loop-j l = (length l.gathered ≡ length l.list) × (take l.j l.gathered ≡ map (slice_index l.entries) (take l.j l.list))
