use Rattle.std.proofs.Common.{◌≡◌, ℕ, ◌<◌, ◌≤◌, length, get_or}
use Rattle.layout.specs.Records.{nodes}
use Rattle.columns.specs.Jobs.{need}
use Rattle.columns.proofs.needs.need.Given as goal

abbrev pub invariant-loop-at : goal.invariant-loop-at
invariant-loop-at l = ((k : ℕ) → l.at ≤ k → k < nodes l.image.bytes.now → get_or l.needs k 0 ≡ need l.image.bytes.now k) × (length l.needs ≡ 256)
