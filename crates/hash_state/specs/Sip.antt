-- SipHash-2-4, as Aumasson and Bernstein publish it.
use Rattle.std.specs.Prelude.{◌≡◌, ℕ, zero, suc, ◌+◌, ◌-◌, ◌*◌, ◌/◌, ◌%◌, ◌^◌, List, [], ◌∷◌, ◌++◌, length, take, drop, replicate, bit_or, bit_xor, refl}

-- the sum of two words, in 64 bits
abbrev pub plus : ℕ → ℕ → ℕ
plus a b = (a + b) % 2 ^ 64

-- a word rotated left by k of its 64 bits
abbrev pub rotl : ℕ → ℕ → ℕ
rotl k x = bit_or (x * 2 ^ k) (x / 2 ^ (64 - k)) % 2 ^ 64

-- the four words of the internal state
pub record Sip : Type 0 where
  pub v0 : ℕ
  pub v1 : ℕ
  pub v2 : ℕ
  pub v3 : ℕ

-- SipRound: in its first half v1 goes into v0 and v3 into v2, in its second v3 into v0 and v1 into v2
unfoldable pub sip_round : Sip → Sip
sip_round s =
    let a0 : ℕ = plus s.v0 s.v1 in
    let a2 : ℕ = plus s.v2 s.v3 in
    let a1 : ℕ = bit_xor (rotl 13 s.v1) a0 in
    let a3 : ℕ = bit_xor (rotl 16 s.v3) a2 in
    let b0 : ℕ = plus (rotl 32 a0) a3 in
    let b2 : ℕ = plus a2 a1 in
    record { v0 = b0; v1 = bit_xor (rotl 17 a1) b2; v2 = rotl 32 b2; v3 = bit_xor (rotl 21 a3) b0 }

-- initialization: the key words with four constants
unfoldable pub initial : ℕ → ℕ → Sip
initial k0 k1 = record {
  v0 = bit_xor k0 0x736f6d6570736575;
  v1 = bit_xor k1 0x646f72616e646f6d;
  v2 = bit_xor k0 0x6c7967656e657261;
  v3 = bit_xor k1 0x7465646279746573;
}

-- compression: a word of the message goes into v3, two rounds pass, and it goes into v0
unfoldable pub compress : Sip → ℕ → Sip
compress s m =
    let t : Sip = sip_round (sip_round (record { v0 = s.v0; v1 = s.v1; v2 = s.v2; v3 = bit_xor s.v3 m })) in
    record { v0 = bit_xor t.v0 m; v1 = t.v1; v2 = t.v2; v3 = t.v3 }

-- all words of the message, one after another
unfoldable pub compressed : Sip → List ℕ → Sip
compressed s [] = s
compressed s (m ∷ ms) = compressed (compress s m) ms

-- finalization: 255 goes into v2, and after four rounds the four words are made one
unfoldable pub finalize : Sip → ℕ
finalize s =
    let t : Sip = sip_round (sip_round (sip_round (sip_round (record { v0 = s.v0; v1 = s.v1; v2 = bit_xor s.v2 255; v3 = s.v3 })))) in
    bit_xor (bit_xor (bit_xor t.v0 t.v1) t.v2) t.v3

-- the number whose bytes, the lowest first, these are
unfoldable pub le_number : List ℕ → ℕ
le_number [] = 0
le_number (b ∷ bs) = b + 256 * le_number bs

-- the first n words of a byte list, of eight bytes each
unfoldable pub words : ℕ → List ℕ → List ℕ
words zero bs = []
words (suc n) bs = le_number (take 8 bs) ∷ words n (drop 8 bs)

-- a message as words: its bytes, then null bytes, so that the byte z is the last one of the last word
unfoldable pub parsed : ℕ → List ℕ → List ℕ
parsed z bs = words (length bs / 8 + 1) (bs ++ (replicate (7 - length bs % 8) 0 ++ (z ∷ [])))

-- SipHash-2-4 of a message under the key words k0 and k1: its length modulo 256 is the last byte
unfoldable pub siphash : ℕ → ℕ → List ℕ → ℕ
siphash k0 k1 bs = finalize (compressed (initial k0 k1) (parsed (length bs % 256) bs))

-- the published example: the key bytes 0 to 15, and the message of the bytes 0 to 14
pub published : siphash 0x0706050403020100 0x0f0e0d0c0b0a0908 (0 ∷ 1 ∷ 2 ∷ 3 ∷ 4 ∷ 5 ∷ 6 ∷ 7 ∷ 8 ∷ 9 ∷ 10 ∷ 11 ∷ 12 ∷ 13 ∷ 14 ∷ []) ≡ 0xa129ca6149be45e5
unfolding sip_round initial compress compressed finalize le_number words parsed siphash
published = refl
