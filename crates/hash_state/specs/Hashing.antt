-- FNV-1a over lists in parts, and the bound of its numbers.
use Rattle.std.specs.Prelude.{◌≡◌, ℕ, ◌+◌, ◌-◌, ◌^◌, ◌<◌, List, [], ◌∷◌, ◌++◌, length, take, drop, slice_index}
use Rattle.std.proofs.Common.{sym, ap, ◌∙◌, take-append-drop, arith}
use Rattle.std.proofs.lemmas.List.{at_drop_more, take_rest}
use Rattle.std.proofs.lemmas.List.Sums.{fold-append}
use Rattle.hash_state.specs.Fnv.{step, fnv1a}

-- the hash is below 2^64 where the start is
pub fnv1a_below : (bs : List ℕ) (h : ℕ) → h < 2 ^ 64 → fnv1a h bs < 2 ^ 64
fnv1a_below [] h l = l
fnv1a_below (b ∷ bs) h l = fnv1a_below bs (step h b) (omega arith)

-- of two lists in a row, the second goes on from the hash of the first
pub fnv1a-append : (xs ys : List ℕ) (h : ℕ) → fnv1a h (xs ++ ys) ≡ fnv1a (fnv1a h xs) ys
fnv1a-append xs ys h = fold-append step h xs ys

-- after one byte of a list, the hash goes on with the rest
pub fnv1a_more : (xs : List ℕ) (i j h next : ℕ) → j ≡ i + 1 → i < length xs → next ≡ step h (slice_index xs i) → fnv1a h (drop i xs) ≡ fnv1a next (drop j xs)
fnv1a_more xs i j h next follows l e =
    at_drop_more (fnv1a h) xs i 0 l
    ∙ ap (λ (k : ℕ). fnv1a (step h (slice_index xs i)) (drop k xs)) (sym follows)
    ∙ ap (λ (n : ℕ). fnv1a n (drop j xs)) (sym e)

-- a list in two parts has the hash of the whole
pub fnv1a_parts : (xs : List ℕ) (k h : ℕ) → fnv1a (fnv1a h (take k xs)) (take (length xs - k) (drop k xs)) ≡ fnv1a h xs
fnv1a_parts xs k h =
    ap (fnv1a (fnv1a h (take k xs))) (take_rest xs k)
    ∙ sym (fnv1a-append (take k xs) (drop k xs) h)
    ∙ ap (fnv1a h) (take-append-drop k xs)
