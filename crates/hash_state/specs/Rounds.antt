-- The bound of SipHash's numbers.
use Rattle.std.specs.Prelude.{◌^◌, ◌<◌, bit_xor}
use Rattle.std.proofs.Common.{mod-lt, lit<}
use Rattle.std.proofs.lemmas.Nat.{xor_lt}
use Rattle.hash_state.specs.Sip.{Sip, finalize, sip_round}

-- the four words are below 2^64
record Below (s : Sip) : Type 0 where
  b0 : s.v0 < 2 ^ 64
  b1 : s.v1 < 2 ^ 64
  b2 : s.v2 < 2 ^ 64
  b3 : s.v3 < 2 ^ 64

-- a round leaves the four words below 2^64, whatever they were
round_below : (s : Sip) → Below (sip_round s)
unfolding sip_round
round_below s = record {
  b0 = mod-lt _ (lit< tt);
  b1 = xor_lt 64 _ _ (mod-lt _ (lit< tt)) (mod-lt _ (lit< tt));
  b2 = mod-lt _ (lit< tt);
  b3 = xor_lt 64 _ _ (mod-lt _ (lit< tt)) (mod-lt _ (lit< tt));
}

-- finalization gives a number below 2^64
pub finalize_below : (s : Sip) → finalize s < 2 ^ 64
unfolding finalize
finalize_below s =
    let t : Sip = sip_round (sip_round (sip_round (record { v0 = s.v0; v1 = s.v1; v2 = bit_xor s.v2 255; v3 = s.v3 }))) in
    let b = round_below t in
    xor_lt 64 _ _ (xor_lt 64 _ _ (xor_lt 64 _ _ b.b0 b.b1) b.b2) b.b3
