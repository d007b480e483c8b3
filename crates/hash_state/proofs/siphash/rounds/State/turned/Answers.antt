use Rattle.std.proofs.Common.{◌≡◌, ℕ, ◌+◌, ◌-◌, ◌*◌, ◌/◌, ◌%◌, ◌^◌, ◌<◌, sym, ap, ◌∙◌, div-le_self, mod-eq_of_lt, arith}
use Rattle.std.proofs.lemmas.Nat.{or_mod}
use lib.Bits.{bit_or, bit_xor, xor_lt}
use Rattle.hash_state.specs.Sip.{rotl, sip_round}
use Rattle.hash_state.proofs.siphash.rounds.State.turned.Goals as goal

-- what `rotate_left` answers
rotl_is : (k x : ℕ) → x < 2 ^ 64 → bit_or (x * 2 ^ k % 2 ^ 64) (x / 2 ^ (64 - k)) ≡ rotl k x
rotl_is k x h =
    let d : x / 2 ^ (64 - k) < 2 ^ 64 = omega (arith, div-le_self x (2 ^ (64 - k))) in
    sym (or_mod (x * 2 ^ k) (x / 2 ^ (64 - k)) 64 ∙ ap (bit_or (x * 2 ^ k % 2 ^ 64)) (mod-eq_of_lt d))

pub returns : goal.returns
unfolding sip_round
returns c =
    let s = c.args.self in
    let a0 : ℕ = (s.v0 + s.v1) % 2 ^ 64 in
    let a2 : ℕ = (s.v2 + s.v3) % 2 ^ 64 in
    let a1 : ℕ = bit_xor c.rotate_left.result a0 in
    let a3 : ℕ = bit_xor c.rotate_left-2.result a2 in
    let r1 = c.rotate_left.ensures ∙ rotl_is 13 s.v1 (omega arith) in
    let r2 = c.rotate_left-2.ensures ∙ rotl_is 16 s.v3 (omega arith) in
    let r3 = c.rotate_left-3.ensures ∙ rotl_is 32 a0 (omega arith) in
    let r4 = c.rotate_left-4.ensures ∙ rotl_is 17 a1 (xor_lt 64 c.rotate_left.result a0 (omega arith) (omega arith)) in
    let r5 = c.rotate_left-5.ensures ∙ rotl_is 32 ((a2 + a1) % 2 ^ 64) (omega arith) in
    let r6 = c.rotate_left-6.ensures ∙ rotl_is 21 a3 (xor_lt 64 c.rotate_left-2.result a2 (omega arith) (omega arith)) in
    simp (r1, r2, r3, r4, r5, r6)
