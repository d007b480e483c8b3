-- What words meet, one case for a list and one for rows one after the other.
use Rattle.std.proofs.Common.{◌≡◌, ℕ, zero, suc, ◌+◌, ◌<◌, ◌≤◌, ◌≢◌, List, [], ◌∷◌, ◌++◌, length, get_or, take, drop, Some, None, Option, sym, refl, ap, ap₂, ◌∙◌, arith, Bor}
use Rattle.std.proofs.lemmas.List.{drop-drop, ext_get_or}
use Rattle.leaves.specs.Rows.{RowsFor, by_place, row_of}
use Rattle.columns.specs.Column.{met_rows}
use Rattle.columns.specs.Jobs.{each, words_at, splice}
use Rattle.columns.proofs.Splices.{get_or-each, get_or-words_at, length-each, length-words_at}

-- a list by which n words meet a row has a row for each of them
pub rows_for : (n : ℕ) (list : Option (Bor (List ℕ))) → met_rows n list ≡ n → RowsFor list n
rows_for n None listed = tt
rows_for n (Some list) listed = listed

-- without a list, rows one after the other end with the last that is met
pub span_inside : (rows lo n : ℕ) (list : Option (Bor (List ℕ))) → ((x : Bor (List ℕ)) → list ≢ Some x) → lo ≤ rows → ((j : ℕ) → j < n → row_of lo list j < rows) → lo + n ≤ rows
span_inside rows lo zero list none low there = omega arith
span_inside rows lo (suc n) None none low there = omega (arith, there n (omega arith))
span_inside rows lo (suc n) (Some list) none low there = absurd (none list refl)

length-by_place : (f : ℕ → ℕ → ℕ) (d : List ℕ) (k : ℕ) → length (by_place f k d) ≡ length d
length-by_place f [] k = refl
length-by_place f (x ∷ d) k = ap suc (length-by_place f d (k + 1))

get_or-by_place : (f : ℕ → ℕ → ℕ) (d : List ℕ) (k i : ℕ) → i < length d → get_or (by_place f k d) i 0 ≡ f (k + i) (get_or d i 0)
get_or-by_place f [] k i h = absurd (omega arith)
get_or-by_place f (x ∷ d) k zero h = ap (λ (m : ℕ). f m x) (omega arith)
get_or-by_place f (x ∷ d) k (suc i) h = get_or-by_place f d (k + 1) i (omega arith) ∙ ap (λ (m : ℕ). f m (get_or d i 0)) (omega arith)

-- words by their places, as a part of the work
pub by_place_each : (f : ℕ → ℕ → ℕ) (at n : ℕ) (w : List ℕ) → at + n ≤ length w → by_place f 0 (words_at at n w) ≡ each (λ i. f i (get_or w (at + i) 0)) n
by_place_each f at n w h =
    let long = length-words_at at n w h in
    ext_get_or 0 (by_place f 0 (words_at at n w)) (each (λ i. f i (get_or w (at + i) 0)) n) (length-by_place f (words_at at n w) 0 ∙ long ∙ sym (length-each _ n))
    (λ i l.
    let m : i < n = omega (arith, length-by_place f (words_at at n w) 0) in
    get_or-by_place f (words_at at n w) 0 i (omega arith)
    ∙ ap (λ (k : ℕ). f k (get_or (words_at at n w) i 0)) (omega arith)
    ∙ ap (f i) (get_or-words_at at n w i m)
    ∙ sym (get_or-each (λ i. f i (get_or w (at + i) 0)) n i m))

-- a job's words by their places, split from what is below them and from the region behind them
pub split_splice : (at n size : ℕ) (w below rest own behind new : List ℕ) (f : List ℕ → ℕ → ℕ → ℕ) → at + n ≤ length w → below ≡ take at w → rest ≡ drop at w → own ≡ take n rest → behind ≡ drop n rest
    → new ≡ by_place (f (take size behind)) 0 own → below ++ (new ++ behind) ≡ splice at n w (each (λ i. f (words_at (at + n) size w) i (get_or w (at + i) 0)) n)
split_splice at n size w below rest own behind new f h eb er eo ed en =
    let left : behind ≡ drop (at + n) w = ed ∙ ap (drop n) er ∙ simp drop-drop refl in
    let made = en ∙ ap₂ (λ (xs ys : List ℕ). by_place (f xs) 0 ys) (ap (take size) left) (eo ∙ ap (take n) er) ∙ by_place_each (f (words_at (at + n) size w)) at n w h in
    ap₂ (λ (xs ys : List ℕ). xs ++ ys) eb (ap₂ (λ (xs ys : List ℕ). xs ++ ys) made left)

-- words by their places, by two rules that agree
pub by_place_same : (f g : ℕ → ℕ → ℕ) (es : List ℕ) (k : ℕ) → ((j e : ℕ) → j < k + length es → f j e ≡ g j e) → by_place f k es ≡ by_place g k es
by_place_same f g [] k same = refl
by_place_same f g (e ∷ es) k same = ap₂ ◌∷◌ (same k e (omega arith)) (by_place_same f g es (k + 1) (λ j x l. same j x (omega arith)))
