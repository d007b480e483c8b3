use Rattle.std.proofs.Common.{ℕ, ◌-◌, ◌*◌, ◌^◌, ◌<◌, ◌≤◌, drop, sym, ap, ◌∙◌, subst, arith}
use Rattle.hash_state.specs.Writes.{le_bytes}
use Rattle.hash_state.proofs.Bytes.{shifted_is, upper, upper_lt}
use Rattle.hash_state.proofs.siphash.read.end.Goals as goal

pub returns : goal.returns
returns c =
    let k = c.args.count in
    let w = c.word.result in
    let most : k ≤ 8 = omega arith in
    let P : ℕ → Type 0 = λ y. y < 2 ^ (8 * k) in
    record {
      low = subst P (sym (shifted_is k w c.requires)) (upper_lt 8 k w most c.word.type_inv);
      same = ap (le_bytes k) (shifted_is k w c.requires) ∙ upper 8 k w most ∙ ap (drop (8 - k)) c.word.ensures;
    }
