-- What a write does to the number that a stream finishes with.
use Rattle.std.proofs.Common.{◌≡◌, ℕ, zero, suc, ◌+◌, ◌-◌, ◌*◌, ◌/◌, ◌%◌, ◌^◌, ◌<◌, ◌≤◌, List, [], ◌∷◌, ◌++◌, length, get_or, drop, replicate, sym, refl, ap, ◌∙◌, ap₂, append_assoc, append-nil, mod-eq_of_lt, arith, length-append, pow_mono}
use lib.Bits.{bit_or}
use Rattle.std.specs.List.{flat_map}
use Rattle.std.proofs.lemmas.List.{at_drop_more}
use Rattle.hash_state.specs.Writes.{le_bytes}
use Rattle.hash_state.specs.Sip.{Sip, compress, compressed, finalize, initial, le_number, parsed, siphash, words}
use Rattle.hash_state.specs.Stream.{finished}
use Rattle.hash_state.proofs.Bytes.{full_is, held_is, join, length-le_bytes, le_number-le_bytes, over_is, split}

parsed_word : (z x : ℕ) (bs : List ℕ) → parsed z (le_bytes 8 x ++ bs) ≡ (x % 2 ^ 64) ∷ parsed z bs
unfolding parsed words
parsed_word z x bs =
    let n : length (le_bytes 8 x ++ bs) ≡ 8 + length bs = omega (arith, length-append (le_bytes 8 x) bs, length-le_bytes 8 x) in
    let a : length (le_bytes 8 x ++ bs) / 8 + 1 ≡ suc (length bs / 8 + 1) = omega arith in
    let b : length (le_bytes 8 x ++ bs) % 8 ≡ length bs % 8 = omega arith in
    ap₂ (λ (m p : ℕ). words m ((le_bytes 8 x ++ bs) ++ (replicate (7 - p) 0 ++ (z ∷ [])))) a b
    ∙ ap (λ (y : ℕ). y ∷ parsed z bs) (le_number-le_bytes 8 x)

-- a word that comes first is compressed first
pub finished_word : (s : Sip) (z x : ℕ) (bs : List ℕ) → finished s z (le_bytes 8 x ++ bs) ≡ finished (compress s (x % 2 ^ 64)) z bs
unfolding finished compressed
finished_word s z x bs = ap (λ (l : List ℕ). finalize (compressed s l)) (parsed_word z x bs)

-- fewer than eight bytes are the last word, with z on top
last_word : (k z t : ℕ) → k < 8 → t < 2 ^ (8 * k) → parsed z (le_bytes k t) ≡ (t + z * 2 ^ 56) ∷ []
unfolding parsed words le_number
last_word zero z t h g = ap (λ (y : ℕ). y ∷ []) (omega arith)
last_word (suc zero) z t h g = ap (λ (y : ℕ). y ∷ []) (omega arith)
last_word (suc (suc zero)) z t h g = ap (λ (y : ℕ). y ∷ []) (omega arith)
last_word (suc (suc (suc zero))) z t h g = ap (λ (y : ℕ). y ∷ []) (omega arith)
last_word (suc (suc (suc (suc zero)))) z t h g = ap (λ (y : ℕ). y ∷ []) (omega arith)
last_word (suc (suc (suc (suc (suc zero))))) z t h g = ap (λ (y : ℕ). y ∷ []) (omega arith)
last_word (suc (suc (suc (suc (suc (suc zero)))))) z t h g = ap (λ (y : ℕ). y ∷ []) (omega arith)
last_word (suc (suc (suc (suc (suc (suc (suc zero))))))) z t h g = ap (λ (y : ℕ). y ∷ []) (omega arith)
last_word (suc (suc (suc (suc (suc (suc (suc (suc k)))))))) z t h g = absurd (omega arith)

-- the end of the stream
pub finished_end : (s : Sip) (n t : ℕ) → t < 2 ^ (8 * (n % 8)) → finalize (compress s (bit_or t (n % 256 * 2 ^ 56 % 2 ^ 64))) ≡ finished s ((n + 0) % 256) (le_bytes (n % 8) t ++ [])
unfolding finished compressed
finished_end s n t g =
    let z : ℕ = (n + 0) % 256 in
    let k : n % 8 < 8 = omega arith in
    let e : 8 * (n % 8) ≤ 56 = omega arith in
    let p : 2 ^ (8 * (n % 8)) ≤ 2 ^ 56 = pow_mono e in
    let f : t < 2 ^ 56 = omega arith in
    let i : 56 ≤ 64 = omega arith in
    let w : bit_or t (n % 256 * 2 ^ 56 % 2 ^ 64) ≡ t + z * 2 ^ 56 = omega (arith, full_is t (n % 256) 56 f i) in
    ap (λ (l : List ℕ). finalize (compressed s l)) (ap (λ (y : ℕ). y ∷ []) w ∙ sym (last_word (n % 8) z t k g) ∙ ap (parsed z) (sym (append-nil (le_bytes (n % 8) t))))

-- from the initial state a stream finishes with the hash of its bytes
pub begun : (s : Sip) (k0 k1 : ℕ) (bs : List ℕ) → s ≡ initial k0 k1 → finished s ((0 + length bs) % 256) bs ≡ siphash k0 k1 bs
unfolding finished siphash
begun s k0 k1 bs e =
    let z : (0 + length bs) % 256 ≡ length bs % 256 = omega arith in
    ap₂ (λ (y : Sip) (m : ℕ). finalize (compressed y (parsed m bs))) e z

-- the last byte of the message, when xs come before bs
counted : (n m : ℕ) (xs bs : List ℕ) → m ≡ length xs → ((n + m) % 2 ^ 64 + length bs) % 256 ≡ (n + length (xs ++ bs)) % 256
counted n m xs bs e = omega (arith, length-append xs bs)

-- a length modulo 2^64 leaves as many bytes beyond whole words
pub mod_8 : (m : ℕ) → m % 2 ^ 64 % 8 ≡ m % 8
mod_8 m = omega arith

-- bytes that still do not fill a word
pub held : (s : Sip) (n w t v : ℕ) (bs : List ℕ) → t < 2 ^ (8 * (n % 8)) → v < 2 ^ (8 * w) → n % 8 + w < 8
    → finished s (((n + w) % 2 ^ 64 + length bs) % 256) (le_bytes ((n + w) % 2 ^ 64 % 8) (bit_or t (v * 2 ^ (8 * (n % 8)) % 2 ^ 64)) ++ bs)
    ≡ finished s ((n + length (le_bytes w v ++ bs)) % 256) (le_bytes (n % 8) t ++ (le_bytes w v ++ bs))
held s n w t v bs h g l =
    let k : ℕ = n % 8 in
    let i : (n + w) % 2 ^ 64 % 8 ≡ k + w = omega arith in
    ap₂ (finished s) (counted n w (le_bytes w v) bs (sym (length-le_bytes w v)))
    (ap₂ (λ (j y : ℕ). le_bytes j y ++ bs) i (held_is k w t v h g l)
    ∙ ap (λ (l : List ℕ). l ++ bs) (sym (join k w t v h))
    ∙ append_assoc (le_bytes k t) (le_bytes w v) bs)

-- bytes that fill a word
pub filling : (s r : Sip) (n w t v : ℕ) (bs : List ℕ) → t < 2 ^ (8 * (n % 8)) → w ≤ 8 → 8 ≤ n % 8 + w → r ≡ compress s (bit_or t (v * 2 ^ (8 * (n % 8)) % 2 ^ 64))
    → finished r (((n + w) % 2 ^ 64 + length bs) % 256) (le_bytes ((n + w) % 2 ^ 64 % 8) (v / 2 ^ (56 - 8 * (n % 8)) / 2 ^ 8) ++ bs)
    ≡ finished s ((n + length (le_bytes w v ++ bs)) % 256) (le_bytes (n % 8) t ++ (le_bytes w v ++ bs))
filling s r n w t v bs h m l e =
    let k : ℕ = n % 8 in
    let j : ℕ = k + w - 8 in
    let x : ℕ = v * 2 ^ (8 * k) + t in
    let z : ℕ = ((n + w) % 2 ^ 64 + length bs) % 256 in
    let over : ℕ = v / 2 ^ (56 - 8 * k) / 2 ^ 8 in
    let a : 8 * k ≤ 64 = omega arith in
    let b : 8 * k ≤ 56 = omega arith in
    let i : (n + w) % 2 ^ 64 % 8 ≡ j = omega (arith, mod_8 (n + w)) in
    let d : 8 + j ≡ k + w = omega arith in
    ap₂ (λ (y : Sip) (l : List ℕ). finished y z (l ++ bs)) (e ∙ ap (compress s) (full_is t v (8 * k) h a)) (ap₂ le_bytes i (over_is t v (8 * k) h b))
    ∙ sym (finished_word s z x (le_bytes j (x / 2 ^ 64) ++ bs))
    ∙ ap (finished s z)
    (sym (append_assoc (le_bytes 8 x) (le_bytes j (x / 2 ^ 64)) bs)
    ∙ ap (λ (l : List ℕ). l ++ bs) (sym (split 8 j x) ∙ ap (λ (i : ℕ). le_bytes i x) d ∙ sym (join k w t v h))
    ∙ append_assoc (le_bytes k t) (le_bytes w v) bs)
    ∙ ap (λ (y : ℕ). finished s y (le_bytes k t ++ (le_bytes w v ++ bs))) (counted n w (le_bytes w v) bs (sym (length-le_bytes w v)))

-- a word of a list of words, after those before it
pub stepped : (s r : Sip) (z w i : ℕ) (ws : List (List ℕ)) (bs : List ℕ) → w < 2 ^ 64 → r ≡ compress s w → i < length ws → le_bytes 8 w ≡ get_or ws i []
    → finished r z (flat_map (λ x. x) (drop (i + 1) ws) ++ bs) ≡ finished s z (flat_map (λ x. x) (drop i ws) ++ bs)
stepped s r z w i ws bs h e l f =
    let rest : List ℕ = flat_map (λ x. x) (drop (i + 1) ws) in
    ap (λ (y : Sip). finished y z (rest ++ bs)) (e ∙ ap (compress s) (sym (mod-eq_of_lt h)))
    ∙ sym (finished_word s z w (rest ++ bs))
    ∙ ap (finished s z)
    (ap (λ (l : List ℕ). l ++ (rest ++ bs)) f
    ∙ sym (append_assoc (get_or ws i []) rest bs)
    ∙ ap (λ (l : List ℕ). l ++ bs) (sym (at_drop_more (flat_map (λ x. x)) ws i [] l)))

-- bytes that come when none wait: the words, and those that wait after them
pub whole : (s r : Sip) (n t u : ℕ) (front xs bs : List ℕ) → n % 8 ≡ 0 → ((z : ℕ) (cs : List ℕ) → finished r z cs ≡ finished s z (front ++ cs)) → front ++ le_bytes (length xs % 8) u ≡ xs
    → finished r (((n + length xs) % 2 ^ 64 + length bs) % 256) (le_bytes ((n + length xs) % 2 ^ 64 % 8) u ++ bs) ≡ finished s ((n + length (xs ++ bs)) % 256) (le_bytes (n % 8) t ++ (xs ++ bs))
whole s r n t u front xs bs none words e =
    let z : ℕ = ((n + length xs) % 2 ^ 64 + length bs) % 256 in
    let j : ℕ = length xs % 8 in
    let k : (n + length xs) % 2 ^ 64 % 8 ≡ j = omega (arith, mod_8 (n + length xs), none) in
    ap (λ (i : ℕ). finished r z (le_bytes i u ++ bs)) k
    ∙ words z (le_bytes j u ++ bs)
    ∙ ap (finished s z) (sym (append_assoc front (le_bytes j u) bs) ∙ ap (λ (l : List ℕ). l ++ bs) e)
    ∙ ap₂ (λ (y i : ℕ). finished s y (le_bytes i t ++ (xs ++ bs))) (counted n (length xs) xs bs refl) (sym none)
