use Rattle.std.proofs.Common.{ℕ, ◌-◌, ◌<◌, ◌≤◌}
use Rattle.layout.specs.Nodes.{element}
use Rattle.columns.proofs.run_ends.RunEnds.find.Given as goal

abbrev pub invariant-loop-low : goal.invariant-loop-low
invariant-loop-low l =
    (l.low ≤ l.high)
    × (l.high ≤ l.self.count)
    × ((k : ℕ) → k < l.low → element l.self.width l.self.column.bytes.now l.self.column.record.a k ≤ l.at)
    × ((k : ℕ) → l.high ≤ k → k < l.self.count → l.at < element l.self.width l.self.column.bytes.now l.self.column.record.a k)

abbrev pub decreases-loop-low : goal.decreases-loop-low
decreases-loop-low l = l.high - l.low
