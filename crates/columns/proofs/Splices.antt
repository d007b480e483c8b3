-- A part of a list that is replaced.
use Rattle.std.proofs.Common.{◌≡◌, ℕ, ◌+◌, ◌-◌, ◌<◌, ◌≤◌, min, List, ◌++◌, length, get_or, take, drop, sym, ap, ◌∙◌, arith}
use borrow.Rule.Slice.PartMut.{put_mid}
use Rattle.std.proofs.lemmas.List.{length-take, length-drop, length-append, drop-drop, get_or-take, get_or-drop, length-take-le, get_or_append_left, get_or-append_right, ext_get_or}
use Rattle.std.proofs.lemmas.List.FromFn.{length-map-range_with_len, get_or-map-range_with_len}
use Rattle.columns.specs.Jobs.{splice, words_at, each}

pub length-words_at : (at n : ℕ) (w : List ℕ) → at + n ≤ length w → length (words_at at n w) ≡ n
length-words_at at n w h = simp (length-take, length-drop) (omega arith)

pub get_or-words_at : (at n : ℕ) (w : List ℕ) (k : ℕ) → k < n → get_or (words_at at n w) k 0 ≡ get_or w (at + k) 0
get_or-words_at at n w k h = get_or-take n (drop at w) k 0 h ∙ get_or-drop at w k 0

pub length-splice : (at n : ℕ) (w ys : List ℕ) → at + n ≤ length w → length ys ≡ n → length (splice at n w ys) ≡ length w
length-splice at n w ys h e = simp (length-append, length-take, length-drop) (omega arith)

pub get_or-splice_below : (at n : ℕ) (w ys : List ℕ) (j : ℕ) → at + n ≤ length w → j < at → get_or (splice at n w ys) j 0 ≡ get_or w j 0
get_or-splice_below at n w ys j h l =
    get_or_append_left (take at w) (ys ++ drop (at + n) w) 0 j (simp length-take (omega arith)) ∙ get_or-take at w j 0 l

pub get_or-splice_in : (at n : ℕ) (w ys : List ℕ) (k : ℕ) → at + n ≤ length w → length ys ≡ n → k < n → get_or (splice at n w ys) (at + k) 0 ≡ get_or ys k 0
get_or-splice_in at n w ys k h e l =
    get_or-append_right (take at w) (ys ++ drop (at + n) w) at (at + k) 0 (length-take-le at w (omega arith)) (omega arith)
    ∙ ap (λ (x : ℕ). get_or (ys ++ drop (at + n) w) x 0) (omega arith)
    ∙ get_or_append_left ys (drop (at + n) w) 0 k (omega arith)

pub get_or-splice_above : (at n : ℕ) (w ys : List ℕ) (j : ℕ) → at + n ≤ length w → length ys ≡ n → at + n ≤ j → get_or (splice at n w ys) j 0 ≡ get_or w j 0
get_or-splice_above at n w ys j h e l =
    get_or-append_right (take at w) (ys ++ drop (at + n) w) at j 0 (length-take-le at w (omega arith)) (omega arith)
    ∙ get_or-append_right ys (drop (at + n) w) n (j - at) 0 e (omega arith)
    ∙ get_or-drop (at + n) w (j - at - n) 0
    ∙ ap (λ (x : ℕ). get_or w x 0) (omega arith)

-- what `&w[at..at + n]` holds
pub length-lent : (at n : ℕ) (w : List ℕ) → at + n ≤ length w → length (take (at + n - at) (drop at w)) ≡ n
length-lent at n w h = simp (length-take, length-drop) (omega arith)

pub lent_words : (at n : ℕ) (w : List ℕ) → take (at + n - at) (drop at w) ≡ words_at at n w
lent_words at n w = let k : at + n - at ≡ n = omega arith in rw k

pub get_or-lent : (at n : ℕ) (w : List ℕ) (k : ℕ) → k < n → get_or (take (at + n - at) (drop at w)) k 0 ≡ get_or w (at + k) 0
get_or-lent at n w k h = ap (λ (xs : List ℕ). get_or xs k 0) (lent_words at n w) ∙ get_or-words_at at n w k h

-- words below a place that stayed
pub take_same : (at : ℕ) (w w' : List ℕ) → length w ≡ length w' → ((j : ℕ) → j < at → get_or w j 0 ≡ get_or w' j 0) → take at w ≡ take at w'
take_same at w w' same below =
    let long : length (take at w) ≡ length (take at w') = simp length-take (ap (min at) same) in
    ext_get_or 0 (take at w) (take at w') long
    (λ j l. let m : j < at = omega (arith, simp length-take at l) in get_or-take at w j 0 m ∙ below j m ∙ sym (get_or-take at w' j 0 m))

-- what `&mut w[at..at + n]` leaves
pub put_mid-splice : (at n : ℕ) (w ys : List ℕ) (F : List ℕ → List ℕ) → ys ≡ F (take (at + n - at) (drop at w)) → put_mid at (at + n - at) w ys ≡ splice at n w (F (words_at at n w))
put_mid-splice at n w ys F e =
    let k : at + n - at ≡ n = omega arith in
    ap (λ (x : List ℕ). put_mid at (at + n - at) w x) e ∙ rw (k, drop-drop)

pub length-each : (f : ℕ → ℕ) (n : ℕ) → length (each f n) ≡ n
length-each f n = length-map-range_with_len f 0 n

pub get_or-each : (f : ℕ → ℕ) (n k : ℕ) → k < n → get_or (each f n) k 0 ≡ f k
get_or-each f n k h = get_or-map-range_with_len f 0 n k k 0 h (omega arith)
