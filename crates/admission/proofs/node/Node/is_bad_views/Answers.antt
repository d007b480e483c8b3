use Rattle.std.proofs.Common.{refl, rules, tests}
use Rattle.std.proofs.iter.Serving.{serving}
use Rattle.admission.proofs.Below.{some_below-from_any}
use Rattle.admission.proofs.Reached.{view_there}
use Rattle.admission.proofs.node.Node.is_bad_views.Goals as goal

pub any-requires-clause-callable : goal.any-requires-clause-callable
any-requires-clause-callable c =
    let bytes = c.args.self.now.column.bytes.now in
    let r = c.args.self.now.column.record in
    let there =
    view_there bytes r (rw c.in-View.is at c.args.self.now.linked) (rw c.in-View.is at c.requires.inside) (rw c.in-View.is at c.requires.reached) in
    grind (serving, there)

pub returns-in-View : goal.returns-in-View
returns-in-View c = rw c.in-View.is (some_below-from_any _ _ refl c.any.ensures.ran (λ x b q k. search (rules, tests)))
