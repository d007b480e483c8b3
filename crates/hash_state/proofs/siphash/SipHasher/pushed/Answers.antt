use Rattle.std.proofs.Common.{◌≡◌, ℕ, ◌+◌, ◌-◌, ◌*◌, ◌/◌, ◌%◌, ◌^◌, ◌<◌, sym, subst, arith}
use lib.Bits.{bit_or}
use Rattle.hash_state.specs.Stream.{seen}
use Rattle.hash_state.proofs.Bytes.{held_is, joint_lt, over_lt}
use Rattle.hash_state.proofs.Streams.{filling, held, mod_8}
use Rattle.hash_state.proofs.siphash.SipHasher.pushed.Goals as goal

pub invariant_of-result : goal.invariant_of-result
invariant_of-result c =
    let h = c.args.self in
    let w = c.args.width in
    let v = c.args.v in
    let k : ℕ = h.length % 8 in
    let full : ℕ = bit_or h.tail (v * 2 ^ (8 * k) % 2 ^ 64) in
    let i : k + w ≡ (h.length + w) % 2 ^ 64 % 8 = omega arith in
    let l : k + w < 8 = omega arith in
    let P : ℕ → Type 0 = λ x. x < 2 ^ (8 * (k + w)) in
    let Q : ℕ → Type 0 = λ j. full < 2 ^ (8 * j) in
    record { low = subst Q i (subst P (sym (held_is k w h.tail v h.low c.requires.low l)) (joint_lt k w h.tail v h.low c.requires.low)) }

pub returns-then-count-width-lt8-clause-told : goal.returns-then-count-width-lt8-clause-told
returns-then-count-width-lt8-clause-told c bs =
    let h = c.args.self in
    held (seen h.state) h.length c.args.width h.tail c.args.v bs h.low c.requires.low (omega arith)

pub invariant_of-result-2 : goal.invariant_of-result-2
invariant_of-result-2 c =
    let h = c.args.self in
    let w = c.args.width in
    let v = c.args.v in
    let k : ℕ = h.length % 8 in
    let i : k + w - 8 ≡ (h.length + w) % 2 ^ 64 % 8 = omega (arith, mod_8 (h.length + w)) in
    let Q : ℕ → Type 0 = λ j. v / 2 ^ (56 - 8 * k) / 2 ^ 8 < 2 ^ (8 * j) in
    record { low = subst Q i (over_lt k w v c.requires.low (omega arith) (omega arith)) }

pub returns-clause-told : goal.returns-clause-told
returns-clause-told c bs =
    let h = c.args.self in
    filling (seen h.state) (seen c.compressed.result) h.length c.args.width h.tail c.args.v bs h.low c.requires.narrow (omega arith) c.compressed.ensures
