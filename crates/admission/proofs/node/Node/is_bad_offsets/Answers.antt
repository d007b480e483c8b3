use Rattle.std.proofs.Common.{refl, rules, tests}
use Rattle.admission.proofs.Below.{some_below-from_any}
use Rattle.admission.proofs.node.Node.is_bad_offsets.Goals as goal

pub returns-else-negative : goal.returns-else-negative
returns-else-negative c =
    rw (← c.number.ensures, ← c.if-negative.ensures) (some_below-from_any _ _ refl c.any.ensures.ran (λ x b q k. search (rules, tests)))
