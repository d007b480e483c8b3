use Rattle.std.proofs.Common.{◌≡◌, ◌+◌, ◌-◌}
use Rattle.columns.specs.Fold.{combined_all}
use Rattle.columns.specs.Jobs.{standing}
use Rattle.columns.proofs.region.Region.combine.Given as goal

abbrev pub invariant-loop-number : goal.invariant-loop-number
invariant-loop-number l =
    combined_all (standing l.self.numbers.now l.self.from) l.fn.initial l.start l.count
    ≡ combined_all (standing l.self.numbers.now l.self.from) l.e (l.start + l.number-index) (l.count - l.number-index)
