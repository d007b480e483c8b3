use Rattle.std.proofs.Common.{◌≡◌, ℕ, suc, ◌-◌, ◌<◌, length, sym, ◌∙◌, arith, rules}
use Rattle.std.proofs.lemmas.Result.{err_from_is_err_and}
use Rattle.admission.specs.FirstFault.{numbered}
use Rattle.admission.proofs.Scan.{passes, stops, heights_more}
use Rattle.admission.proofs.check.check_nodes.Goals as goal

pub returns-in_err-height : goal.returns-in_err-height
returns-in_err-height c =
    let node : ℕ = c.loop-node.node - 1 in
    let next : c.loop-node.node ≡ suc node = omega arith in
    let p = err_from_is_err_and c.from_residual.result c.from_residual.ensures.1 in
    rw (p.1, p.2)
    (sym (c.loop-node.invariant.0 ∙ stops c.args.bytes.now c.loop-node.node node next (numbered c.in_err-height.field-0.0) c.in_err-height.ensures.fault))

pub loop-node-preserved : goal.loop-node-preserved
loop-node-preserved c =
    let node : ℕ = c.loop-node.node - 1 in
    let next : c.loop-node.node ≡ suc node = omega arith in
    let within : node < length c.loop-node.heights = omega (arith, c.loop-node.invariant.2) in (
      c.loop-node.invariant.0 ∙ passes c.args.bytes.now c.loop-node.node node next c.in_ok-height.ensures.fault,
      heights_more c.args.bytes.now c.loop-node.node node next c.loop-node.heights c.in_ok-height.height within c.loop-node.invariant.1 c.in_ok-height.ensures.height,
      search rules,
    )
