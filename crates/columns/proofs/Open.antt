-- Which words of the work stay: those below the claimed count, and so all that are not open.
use Rattle.std.proofs.Common.{◌≡◌, ℕ, ◌-◌, ◌<◌, ◌≤◌, min, Bool, false, ◌&&◌, ◌⊎◌, ltb, List, ◌++◌, length, get_or, take, drop, sym, ap, ◌∙◌, inl, inr, arith}
use Rattle.std.proofs.lemmas.Bool.{cases_lt, le-leb, le-ltb, lt-leb, ltb-false}
use Rattle.std.proofs.lemmas.List.{get_or-append_right, get_or-drop, get_or-take, get_or_append_left, get_or_past, length-append, length-drop, length-take-le}
use Rattle.columns.specs.Open.{OthersStay, is_open}
use Rattle.columns.proofs.Splices.{take_same}

-- a word below the claimed ones is closed, and so is one behind the last
closed_below : (claimed work k : ℕ) → k < claimed → is_open claimed work k ≡ false
closed_below claimed work k l = ap (λ (b : Bool). b && ltb k work) (lt-leb claimed k l)

-- a closed word is claimed, or behind those that are lent
closed : (claimed work k : ℕ) → is_open claimed work k ≡ false → claimed ≤ k → work ≤ k
closed claimed work k e l = ltb-false k work (sym (ap (λ (b : Bool). b && ltb k work) (le-leb claimed k l)) ∙ e)

-- where each word below the claimed count is as it was, all that are not open are
pub below_stay : (claimed : ℕ) (w w' : List ℕ) → length w' ≡ length w → ((k : ℕ) → k < claimed → get_or w' k 0 ≡ get_or w k 0) → OthersStay (is_open claimed (length w)) w w'
below_stay claimed w w' long below = (long, λ k shut. by_place k shut (cases_lt k claimed))
  where
    by_place : (k : ℕ) → is_open claimed (length w) k ≡ false → (k < claimed) ⊎ (claimed ≤ k) → get_or w' k 0 ≡ get_or w k 0
    by_place k shut (inl l) = below k l
    by_place k shut (inr l) =
        let past = closed claimed (length w) k shut l in
        get_or_past w' k 0 (omega arith) ∙ sym (get_or_past w k 0 past)

-- the same of the claimed words as one part
pub others_stay : (claimed : ℕ) (w w' : List ℕ) → length w' ≡ length w → take claimed w' ≡ take claimed w → OthersStay (is_open claimed (length w)) w w'
others_stay claimed w w' long same =
    below_stay claimed w w' long (λ k l. sym (get_or-take claimed w' k 0 l) ∙ ap (λ (xs : List ℕ). get_or xs k 0) same ∙ get_or-take claimed w k 0 l)

-- where all that are not open are as they were, the claimed words are
pub claimed_stay : (claimed n : ℕ) (w w' : List ℕ) → OthersStay (is_open claimed n) w w' → take claimed w' ≡ take claimed w
claimed_stay claimed n w w' stay = take_same claimed w' w stay.0 (λ k l. stay.1 k (closed_below claimed n k l))

-- of more claimed words no more are open
pub fewer_open : (claimed at n : ℕ) (w w' : List ℕ) → at ≡ min claimed n → OthersStay (is_open at n) w w' → OthersStay (is_open claimed n) w w'
fewer_open claimed at n w w' e stay = (stay.0, λ k shut. stay.1 k (by_place k shut (cases_lt k at)))
  where
    by_place : (k : ℕ) → is_open claimed n k ≡ false → (k < at) ⊎ (at ≤ k) → is_open at n k ≡ false
    by_place k shut (inl l) = closed_below at n k l
    by_place k shut (inr l) =
        let past : n ≤ k = elim (cases_lt k claimed) [ inl m ↦ omega arith | inr m ↦ closed claimed n k shut m ] in
        ap (λ (b : Bool). b && ltb k n) (le-leb at k l) ∙ le-ltb k n past

-- a call that is lent the first n words of the work leaves of the whole what it leaves of them
pub part_stays : (claimed n : ℕ) (w lent : List ℕ) → n ≤ length w → OthersStay (is_open claimed n) (take n w) lent → OthersStay (is_open claimed n) w (lent ++ drop n w)
part_stays claimed n w lent h stay = (simp (length-append, length-drop) (omega (arith, long)), λ k shut. by_place k shut (cases_lt k n))
  where
    long : length lent ≡ n
    long = stay.0 ∙ length-take-le n w h

    by_place : (k : ℕ) → is_open claimed n k ≡ false → (k < n) ⊎ (n ≤ k) → get_or (lent ++ drop n w) k 0 ≡ get_or w k 0
    by_place k shut (inl l) = get_or_append_left lent (drop n w) 0 k (omega (arith, long)) ∙ stay.1 k shut ∙ get_or-take n w k 0 l
    by_place k shut (inr l) =
        get_or-append_right lent (drop n w) n k 0 long l ∙ get_or-drop n w (k - n) 0 ∙ ap (λ (m : ℕ). get_or w m 0) (omega arith)
