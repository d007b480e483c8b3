use Rattle.std.proofs.Common.{◌≡◌, ℕ, ◌+◌, ◌*◌, ◌/◌, ◌<◌, Bool, List, ◌++◌, drop, length, vec_items, sym, ap, ◌∙◌, arith}
use Rattle.std.specs.Bool.{then_some}
use Rattle.std.specs.Option.{option_map}
use Rattle.text.proofs.Reading.{option_map-then_some, pairs_end, pairs_step}
use Rattle.text.specs.Text.{bytes_value}
use Rattle.text.proofs.hex_bytes.Goals as goal

pub returns-in_default : goal.returns-in_default
returns-in_default c =
    let here : c.loop-high.high-index < length c.args.digits.now / 2 = omega (arith, c.loop-high-test.true, c.as_chunks.ensures.front_len) in
    sym (c.loop-high.invariant ∙ pairs_step _ _ c.loop-high.high-index (vec_items c.loop-high.bytes) _ c.as_chunks.ensures.front here c.in_default.ensures)

pub loop-high-preserved : goal.loop-high-preserved
loop-high-preserved c =
    let here : c.loop-high.high-index < length c.args.digits.now / 2 = omega (arith, c.loop-high-test.true, c.as_chunks.ensures.front_len) in
    c.loop-high.invariant
    ∙ pairs_step _ _ c.loop-high.high-index (vec_items c.loop-high.bytes) _ c.as_chunks.ensures.front here c.in-Some.ensures
    ∙ ap (λ (done : List ℕ). option_map (λ bs. done ++ bs) (bytes_value (drop (2 * (c.loop-high.high-index + 1)) c.args.digits.now))) (sym c.in_ok-push.ensures.items)

pub returns : goal.returns
returns c =
    let all : c.loop-high.high-index ≡ length c.args.digits.now / 2 = omega (arith, c.loop-high-test.false, c.loop-high.auto.high-index-end, c.as_chunks.ensures.front_len) in
    ap (option_map vec_items) (c.then_some.ensures ∙ ap (λ (b : Bool). then_some b c.loop-high.bytes) c.is_empty.ensures)
    ∙ option_map-then_some vec_items _ c.loop-high.bytes
    ∙ sym (c.loop-high.invariant ∙ pairs_end _ c.loop-high.high-index _ (vec_items c.loop-high.bytes) all c.as_chunks.ensures.back c.as_chunks.ensures.back_len)
