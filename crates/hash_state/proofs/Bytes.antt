-- The low bytes of a number, cut and joined.
use Rattle.std.proofs.Common.{◌≡◌, ℕ, zero, suc, ◌+◌, ◌-◌, ◌*◌, ◌/◌, ◌%◌, ◌^◌, ◌<◌, ◌≤◌, List, [], ◌∷◌, ◌++◌, length, take, drop, sym, refl, ap, ◌∙◌, subst, ap₂, append_assoc, take-append-drop, rules, arith, pow_mono, pow-add, shr-shr, shr_lt}
use Rattle.std.specs.List.{flat_map}
use Rattle.std.specs.Simd.{first_chunks}
use lib.Bits.{bit_or, or_mod, or_shifted_r}
use lib.Arith.{digits_lt}
use lib.Pow.{field, high, low, mod-mod-pow, mod-pow-add}
use Rattle.std.proofs.lemmas.List.{drop_at, drop-drop}
use Rattle.hash_state.specs.Writes.{le_bytes}
use Rattle.hash_state.specs.Sip.{le_number}

-- there are as many low bytes as are asked for
pub length-le_bytes : (k x : ℕ) → length (le_bytes k x) ≡ k
length-le_bytes zero x = refl
length-le_bytes (suc k) x = ap suc (length-le_bytes k (x / 256))

-- the eight bytes of a word, each by its own quotient
pub eight_bytes : (v : ℕ) → (v % 256) ∷ (v / 256 % 256) ∷ (v / 65536 % 256) ∷ (v / 16777216 % 256) ∷ (v / 4294967296 % 256) ∷ (v / 1099511627776 % 256) ∷ (v / 281474976710656 % 256) ∷ (v / 72057594037927936 % 256) ∷ [] ≡ le_bytes 8 v
eight_bytes v = search rules

-- the first i bytes, and the j above them
pub split : (i j x : ℕ) → le_bytes (i + j) x ≡ le_bytes i x ++ le_bytes j (x / 2 ^ (8 * i))
split zero j x =
    let a : zero + j ≡ j = omega arith in
    let b : x ≡ x / 1 = omega arith in
    ap (λ (n : ℕ). le_bytes n x) a ∙ ap (le_bytes j) b
split (suc i) j x =
    let a : suc i + j ≡ suc (i + j) = omega arith in
    let b : 8 + 8 * i ≡ 8 * suc i = omega arith in
    let more : le_bytes (i + j) (x / 256) ≡ le_bytes i (x / 256) ++ le_bytes j (x / 2 ^ (8 * suc i)) =
    split i j (x / 256) ∙ ap (λ (y : ℕ). le_bytes i (x / 256) ++ le_bytes j y) (shr-shr x 8 (8 * i) ∙ ap (λ (e : ℕ). x / 2 ^ e) b) in
    ap (λ (n : ℕ). le_bytes n x) a ∙ ap (λ (l : List ℕ). (x % 256) ∷ l) more

-- the low k bytes are those of the number modulo 2^(8k)
pub le_bytes-mod : (k x : ℕ) → le_bytes k (x % 2 ^ (8 * k)) ≡ le_bytes k x
le_bytes-mod zero x = refl
le_bytes-mod (suc k) x =
    let a : 8 * suc k ≡ 8 * k + 8 = omega arith in
    ap (λ (e : ℕ). le_bytes (suc k) (x % 2 ^ e)) a
    ∙ ap (λ (b : ℕ). b ∷ le_bytes k (x % 2 ^ (8 * k + 8) / 256)) (mod-mod-pow x (8 * k) 8)
    ∙ ap (λ (l : List ℕ). (x % 256) ∷ l) (ap (le_bytes k) (field x (8 * k) 8) ∙ le_bytes-mod k (x / 256))

-- the low k bytes spell the number modulo 2^(8k)
pub le_number-le_bytes : (k x : ℕ) → le_number (le_bytes k x) ≡ x % 2 ^ (8 * k)
unfolding le_number
le_number-le_bytes zero x = omega arith
le_number-le_bytes (suc k) x =
    let a : 8 * suc k ≡ 8 * k + 8 = omega arith in
    let b : x % 2 ^ (8 * suc k) ≡ x % 2 ^ (8 * k + 8) = ap (λ (e : ℕ). x % 2 ^ e) a in
    omega (arith, le_number-le_bytes k (x / 256), mod-pow-add x (8 * k) 8, b)

-- a number's whole bytes below another's
pub join : (k w t v : ℕ) → t < 2 ^ (8 * k) → le_bytes k t ++ le_bytes w v ≡ le_bytes (k + w) (v * 2 ^ (8 * k) + t)
join k w t v h =
    let x : ℕ = v * 2 ^ (8 * k) + t in
    sym (split k w x
    ∙ ap (λ (l : List ℕ). l ++ le_bytes w (x / 2 ^ (8 * k))) (sym (le_bytes-mod k x) ∙ ap (le_bytes k) (low v (8 * k) h))
    ∙ ap (λ (y : ℕ). le_bytes k t ++ le_bytes w y) (high v (8 * k) h))

-- the word that is full: the bytes that wait, and a number above them
pub full_is : (t v e : ℕ) → t < 2 ^ e → e ≤ 64 → bit_or t (v * 2 ^ e % 2 ^ 64) ≡ (v * 2 ^ e + t) % 2 ^ 64
full_is t v e h k =
    let p : 2 ^ e ≤ 2 ^ 64 = pow_mono k in
    let m : t ≡ t % 2 ^ 64 = omega arith in
    ap (λ (y : ℕ). bit_or y (v * 2 ^ e % 2 ^ 64)) m ∙ sym (or_mod t (v * 2 ^ e) 64) ∙ ap (λ (y : ℕ). y % 2 ^ 64) (or_shifted_r v e t h)

-- what of that number runs over the word
pub over_is : (t v e : ℕ) → t < 2 ^ e → e ≤ 56 → v / 2 ^ (56 - e) / 2 ^ 8 ≡ (v * 2 ^ e + t) / 2 ^ 64
over_is t v e h k =
    let a : 56 - e + 8 ≡ 64 - e = omega arith in
    let b : e + (64 - e) ≡ 64 = omega arith in
    let x : ℕ = v * 2 ^ e + t in
    shr-shr v (56 - e) 8
    ∙ ap (λ (d : ℕ). v / 2 ^ d) a
    ∙ ap (λ (y : ℕ). y / 2 ^ (64 - e)) (sym (high v e h))
    ∙ shr-shr x e (64 - e)
    ∙ ap (λ (d : ℕ). x / 2 ^ d) b

-- a number of w bytes above one of k is one of k + w
pub joint_lt : (k w t v : ℕ) → t < 2 ^ (8 * k) → v < 2 ^ (8 * w) → v * 2 ^ (8 * k) + t < 2 ^ (8 * (k + w))
joint_lt k w t v h g =
    let a : 8 * w + 8 * k ≡ 8 * (k + w) = omega arith in
    let b : 2 ^ (8 * w) * 2 ^ (8 * k) ≡ 2 ^ (8 * (k + w)) = sym (pow-add 2 (8 * w) (8 * k)) ∙ ap (λ (e : ℕ). 2 ^ e) a in
    omega (arith, digits_lt g h, b)

-- the bytes that wait and a number above them, where they do not fill the word
pub held_is : (k w t v : ℕ) → t < 2 ^ (8 * k) → v < 2 ^ (8 * w) → k + w < 8 → bit_or t (v * 2 ^ (8 * k) % 2 ^ 64) ≡ v * 2 ^ (8 * k) + t
held_is k w t v h g l =
    let e : 8 * k ≤ 64 = omega arith in
    let f : 8 * (k + w) ≤ 64 = omega arith in
    let p : 2 ^ (8 * (k + w)) ≤ 2 ^ 64 = pow_mono f in
    let m : (v * 2 ^ (8 * k) + t) % 2 ^ 64 ≡ v * 2 ^ (8 * k) + t = omega (arith, joint_lt k w t v h g) in
    full_is t v (8 * k) h e ∙ m

-- what runs over the word has as many bytes as there are beyond eight
pub over_lt : (k w v : ℕ) → v < 2 ^ (8 * w) → k < 8 → 8 ≤ k + w → v / 2 ^ (56 - 8 * k) / 2 ^ 8 < 2 ^ (8 * (k + w - 8))
over_lt k w v g l m =
    let a : 56 - 8 * k + 8 ≡ 64 - 8 * k = omega arith in
    let b : 8 * w ≡ 8 * (k + w - 8) + (64 - 8 * k) = omega arith in
    let P : ℕ → Type 0 = λ e. v < 2 ^ e in
    let Q : ℕ → Type 0 = λ y. y < 2 ^ (8 * (k + w - 8)) in
    subst Q (sym (shr-shr v (56 - 8 * k) 8 ∙ ap (λ (d : ℕ). v / 2 ^ d) a)) (shr_lt (8 * (k + w - 8)) (64 - 8 * k) (subst P b g))

-- the highest k of m bytes
pub upper : (m k w : ℕ) → k ≤ m → le_bytes k (w / 2 ^ (8 * (m - k))) ≡ drop (m - k) (le_bytes m w)
upper m k w h =
    let a : m ≡ m - k + k = omega arith in
    let e : le_bytes m w ≡ le_bytes (m - k) w ++ le_bytes k (w / 2 ^ (8 * (m - k))) = ap (λ (n : ℕ). le_bytes n w) a ∙ split (m - k) k w in
    sym (ap (drop (m - k)) e ∙ drop_at (le_bytes (m - k) w) (le_bytes k (w / 2 ^ (8 * (m - k)))) (m - k) (length-le_bytes (m - k) w))

-- the highest k of m bytes are a number of k bytes
pub upper_lt : (m k w : ℕ) → k ≤ m → w < 2 ^ (8 * m) → w / 2 ^ (8 * (m - k)) < 2 ^ (8 * k)
upper_lt m k w h g =
    let a : 8 * m ≡ 8 * k + 8 * (m - k) = omega arith in
    let P : ℕ → Type 0 = λ e. w < 2 ^ e in
    shr_lt (8 * k) (8 * (m - k)) (subst P a g)

-- the last k bytes of a list, from its last m
pub last_part : (xs : List ℕ) (m k w : ℕ) → k ≤ m → m ≤ length xs → le_bytes m w ≡ drop (length xs - m) xs → le_bytes k (w / 2 ^ (8 * (m - k))) ≡ drop (length xs - k) xs
last_part xs m k w h g e =
    let b : length xs - m + (m - k) ≡ length xs - k = omega arith in
    upper m k w h ∙ ap (drop (m - k)) e ∙ drop-drop (m - k) (length xs - m) xs ∙ ap (λ (p : ℕ). drop p xs) b

-- two shifts are one
pub shifted_is : (k w : ℕ) → k < 8 → w / 2 ^ (56 - 8 * k) / 2 ^ 8 ≡ w / 2 ^ (8 * (8 - k))
shifted_is k w h =
    let a : 56 - 8 * k + 8 ≡ 8 * (8 - k) = omega arith in
    shr-shr w (56 - 8 * k) 8 ∙ ap (λ (d : ℕ). w / 2 ^ d) a

-- four to seven bytes, from the first four and the last four
pub halved : (xs : List ℕ) (a b : ℕ) → 4 ≤ length xs → length xs < 8 → a < 2 ^ 32 → b < 2 ^ 32 → le_bytes 4 a ≡ take 4 xs → le_bytes 4 b ≡ drop (length xs - 4) xs → le_bytes (length xs) (a + b / 2 ^ (8 * (8 - length xs)) * 2 ^ 32 % 2 ^ 64) ≡ xs
halved xs a b p q al bl ea eb =
    let n : ℕ = length xs in
    let k : ℕ = n - 4 in
    let h : ℕ = b / 2 ^ (8 * (8 - n)) in
    let kl : k ≤ 4 = omega arith in
    let d : 8 * (4 - k) ≡ 8 * (8 - n) = omega arith in
    let hd : b / 2 ^ (8 * (4 - k)) ≡ h = ap (λ (e : ℕ). b / 2 ^ e) d in
    let P : ℕ → Type 0 = λ y. y < 2 ^ (8 * k) in
    let hl : h < 2 ^ (8 * k) = subst P hd (upper_lt 4 k b kl bl) in
    let kb : 8 * k ≤ 24 = omega arith in
    let hb : 2 ^ (8 * k) ≤ 2 ^ 24 = pow_mono kb in
    let v : a + h * 2 ^ 32 % 2 ^ 64 ≡ h * 2 ^ 32 + a = omega arith in
    let nk : 4 + k ≡ n = omega arith in
    let nd : n - k ≡ 4 = omega arith in
    let top : le_bytes k h ≡ drop 4 xs = ap (le_bytes k) (sym hd) ∙ last_part xs 4 k b kl p eb ∙ ap (λ (i : ℕ). drop i xs) nd in
    ap (le_bytes n) v ∙ ap (λ (i : ℕ). le_bytes i (h * 2 ^ 32 + a)) (sym nk) ∙ sym (join 4 k a h al) ∙ ap₂ (λ (l m : List ℕ). l ++ m) ea top ∙ take-append-drop 4 xs

-- a list in chunks of n, as far as they go
flat-first_chunks : (n k : ℕ) (xs : List ℕ) → flat_map (λ x. x) (first_chunks n k xs) ++ drop (k * n) xs ≡ xs
flat-first_chunks n zero xs =
    let a : 0 * n ≡ 0 = omega arith in
    ap (λ (i : ℕ). drop i xs) a
flat-first_chunks n (suc k) xs =
    let more : List ℕ = flat_map (λ x. x) (first_chunks n k (drop n xs)) in
    let a : suc k * n ≡ n + k * n = omega arith in
    append_assoc (take n xs) more (drop (suc k * n) xs)
    ∙ ap (λ (l : List ℕ). take n xs ++ (more ++ l)) (ap (λ (i : ℕ). drop i xs) a ∙ sym (drop-drop (k * n) n xs))
    ∙ ap (λ (l : List ℕ). take n xs ++ l) (flat-first_chunks n k (drop n xs))
    ∙ take-append-drop n xs

-- a list as its words, and the bytes after them as the highest of its last eight
pub cut : (xs last : List ℕ) (u : ℕ) → 8 ≤ length xs → last ≡ drop (length xs - 8) xs → le_bytes (length xs % 8) u ≡ drop (8 - length xs % 8) last → flat_map (λ x. x) (first_chunks 8 (length xs / 8) xs) ++ le_bytes (length xs % 8) u ≡ xs
cut xs last u h e f =
    let k : ℕ = length xs % 8 in
    let a : length xs - 8 + (8 - k) ≡ length xs / 8 * 8 = omega arith in
    ap (λ (l : List ℕ). flat_map (λ x. x) (first_chunks 8 (length xs / 8) xs) ++ l) (f ∙ ap (drop (8 - k)) e ∙ drop-drop (8 - k) (length xs - 8) xs ∙ ap (λ (i : ℕ). drop i xs) a)
    ∙ flat-first_chunks 8 (length xs / 8) xs
