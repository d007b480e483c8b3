use Rattle.std.proofs.Common.{◌≡◌, ◌*◌, false, length, refl, rules, tests}
use Rattle.layout.specs.Records.{elements}
use Rattle.admission.specs.Rejections.{outside}
use Rattle.admission.proofs.Below.{some_below-from_any}
use Rattle.admission.proofs.node.Node.is_bad_values.Goals as goal

pub returns-else-is_buffer_outside : goal.returns-else-is_buffer_outside
returns-else-is_buffer_outside c =
    let bytes = c.args.self.now.column.bytes.now in
    let r = c.args.self.now.column.record in
    let views_inside : outside (length bytes) r.a (16 * elements r) ≡ false = search rules in
    rw (c.in-View.is, views_inside) (some_below-from_any _ _ refl c.any.ensures.ran (λ x b q k. search (rules, tests)))
