use Rattle.std.proofs.Common.{refl, rules, tests}
use Rattle.admission.proofs.Below.{some_below-from_any}
use Rattle.admission.proofs.node.Node.is_bad_run_ends.Goals as goal

pub returns : goal.returns
returns c = rw (← c.child_rows.ensures) (some_below-from_any _ _ refl c.any.ensures.ran (λ x b q k. search (rules, tests)))
