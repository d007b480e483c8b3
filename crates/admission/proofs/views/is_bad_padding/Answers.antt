use Rattle.std.proofs.Common.{◌≡◌, ℕ, ◌+◌, ◌-◌, Bool, not, eqb, get_or, take, drop, ap, ◌∙◌, arith, rules, tests}
use Rattle.std.proofs.lemmas.Iterator.{YieldsList-from_slice}
use Rattle.std.proofs.lemmas.Iterator.Search.{any_from_yields_List}
use Rattle.std.proofs.lemmas.Grind.{common_steps}
use Rattle.admission.proofs.Below.{any_below}
use Rattle.admission.proofs.views.is_bad_padding.Goals as goal

pub returns : goal.returns
returns c =
    let bytes = c.args.bytes.now in
    let start : ℕ = c.args.view + 4 + c.args.size in
    let n : ℕ = 12 - c.args.size in
    let is_set : ℕ → Bool = λ b. not (eqb b 0) in
    let own : c.iter.result.rest.now ≡ take n (drop start bytes) = search (rules, common_steps) in
    rw (← c.requires.size.0)
    (any_from_yields_List is_set _ _ _ c.any.ensures.ran (YieldsList-from_slice _ own) (λ x b q k. search (rules, tests))
    ∙ any_below (take n (drop start bytes)) is_set (λ (k : ℕ). is_set (get_or bytes (start + k) 0)) n (grind (arith, common_steps)) (λ k h. ap is_set (grind (arith, common_steps))))
