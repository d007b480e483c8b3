use Rattle.std.proofs.Common.{refl, rules, tests}
use Rattle.admission.proofs.Below.{some_below-from_any}
use Rattle.admission.proofs.table.is_bad_child.Goals as goal

pub returns : goal.returns
returns c =
    rw (← c.requires.count, ← c.listed.ensures) (some_below-from_any _ _ refl c.any.ensures.ran (λ x b q k. search (rules, tests)))
