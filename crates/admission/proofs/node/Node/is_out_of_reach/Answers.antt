use Rattle.std.proofs.Common.{refl, rules, tests}
use Rattle.admission.proofs.Below.{some_below-from_any}
use Rattle.admission.proofs.node.Node.is_out_of_reach.Goals as goal

pub returns-in-View : goal.returns-in-View
returns-in-View c = rw c.in-View.is (some_below-from_any _ _ refl c.any.ensures.ran (λ x b q k. search (rules, tests)))

pub returns-in-Dictionary : goal.returns-in-Dictionary
returns-in-Dictionary c = rw c.in-Dictionary.is (some_below-from_any _ _ refl c.any-in-Dictionary.ensures.ran (λ x b q k. search (rules, tests)))

pub returns-in-Struct : goal.returns-in-Struct
returns-in-Struct c = rw c.in-Struct.is (some_below-from_any _ _ refl c.any-in-Struct.ensures.ran (λ x b q k. search (rules, tests)))

pub returns-in-ListView : goal.returns-in-ListView
returns-in-ListView c = rw c.in-ListView.is (some_below-from_any _ _ refl c.any-in-ListView.ensures.ran (λ x b q k. search (rules, tests)))
