-- One step of the loop keeps what the frames stand for.
use Rattle.std.proofs.Common.{◌≡◌, ℕ, zero, suc, ◌+◌, ◌-◌, ◌<◌, ◌≤◌, ◌≢◌, List, length, get_or, set, refl, ap, ◌∙◌, add-one, arith, below_more}
use Rattle.std.proofs.lemmas.List.{get_or-set_same, get_or-set_other, length-set}
use Rattle.columns.specs.Machine.{Plan, turns, total, complete, iterations, Fits, pending, waiting, left, Stands}

turns_more : {W : Type 0} (g : ℕ → W → W) (m s : ℕ) (w : W) → 0 < m → turns g m s w ≡ turns g (m - 1) (s + 1) (g s w)
unfolding turns
turns_more g zero s w h = absurd (omega arith)
turns_more g (suc m) s w h = let e : suc m - 1 ≡ m = omega arith in rw e

turns_none : {W : Type 0} (g : ℕ → W → W) (m s : ℕ) (w : W) → m ≡ 0 → turns g m s w ≡ w
unfolding turns
turns_none g m s w e = rw e

total_more : (h : ℕ → ℕ) (m s : ℕ) → 0 < m → total h m s ≡ h s + total h (m - 1) (s + 1)
unfolding total
total_more h zero s l = absurd (omega arith)
total_more h (suc m) s l = let e : suc m - 1 ≡ m = omega arith in rw e

total_none : (h : ℕ → ℕ) (m s : ℕ) → m ≡ 0 → total h m s ≡ 0
unfolding total
total_none h m s e = rw e

module _ {J F W : Type 0} (P : Plan J F W) where
  complete_last : (f : ℕ) (j : J) (s : ℕ) (w : W) → Fits P f j → P.children j ≤ s → complete P f j s w ≡ P.after j w
  unfolding complete Fits
  complete_last zero j s w h l = absurd h
  complete_last (suc f) j s w h l = ap (P.after j) (turns_none _ _ _ w (omega arith))

  complete_next : (f : ℕ) (j : J) (s : ℕ) (w : W) → Fits P f j → s < P.children j → complete P f j s w ≡ complete P f j (s + 1) (complete P (f - 1) (P.child j s) 0 (P.before j s w))
  unfolding complete Fits
  complete_next zero j s w h l = absurd h
  complete_next (suc f) j s w h l =
      let e : suc f - 1 ≡ f = omega arith in
      let k : P.children j - s - 1 ≡ P.children j - (s + 1) = omega arith in
      let t = turns_more (λ t v. complete P f (P.child j t) 0 (P.before j t v)) (P.children j - s) s w (omega arith) in
      rw e (ap (P.after j) (rw k at t))

  iterations_last : (f : ℕ) (j : J) (s : ℕ) → Fits P f j → P.children j ≤ s → iterations P f j s ≡ 1
  unfolding iterations Fits
  iterations_last zero j s h l = absurd h
  iterations_last (suc f) j s h l = ap (λ (x : ℕ). 1 + x) (total_none _ _ _ (omega arith))

  iterations_next : (f : ℕ) (j : J) (s : ℕ) → Fits P f j → s < P.children j → iterations P f j s ≡ 1 + (iterations P f j (s + 1) + iterations P (f - 1) (P.child j s) 0)
  unfolding iterations Fits
  iterations_next zero j s h l = absurd h
  iterations_next (suc f) j s h l =
      let e : suc f - 1 ≡ f = omega arith in
      let k : P.children j - s - 1 ≡ P.children j - (s + 1) = omega arith in
      let t = total_more (λ t. 1 + iterations P f (P.child j t) 0) (P.children j - s) s (omega arith) in
      let u = rw k at t in
      rw e (omega arith)

  pub fits_child : (f : ℕ) (j : J) (s : ℕ) → Fits P f j → s < P.children j → Fits P (f - 1) (P.child j s)
  unfolding Fits
  fits_child zero j s h l = absurd h
  fits_child (suc f) j s h l = let e : suc f - 1 ≡ f = omega arith in rw e (h.1 s l)

  fits_some : (f : ℕ) (j : J) → Fits P f j → 0 < f
  unfolding Fits
  fits_some zero j h = absurd h
  fits_some (suc f) j h = omega arith

  pub fits_ok : (f : ℕ) (j : J) → Fits P f j → P.Ok j
  unfolding Fits
  fits_ok zero j h = absurd h
  fits_ok (suc f) j h = h.0

  module _ (L : ℕ) (fs : List F) where
    pending_set : (d i : ℕ) (x : F) (w : W) → d ≤ i → pending P L (set fs i x) d w ≡ pending P L fs d w
    unfolding pending
    pending_set zero i x w l = refl
    pending_set (suc d) i x w l =
        let ne : d ≢ i = omega arith in
        rw (get_or-set_other fs i d x P.none) (pending_set d i x _ (omega arith))

    waiting_set : (d i : ℕ) (x : F) → d ≤ i → waiting P L (set fs i x) d ≡ waiting P L fs d
    unfolding waiting
    waiting_set zero i x l = refl
    waiting_set (suc d) i x l =
        let ne : d ≢ i = omega arith in
        let r = waiting_set d i x (omega arith) in
        rw (get_or-set_other fs i d x P.none, r)

    pending_push : (d : ℕ) (x : F) (v : W) → d < length fs → pending P L (set fs d x) (d + 1) v ≡ pending P L fs d (complete P (L - d) (P.job x) (P.stage x) v)
    unfolding pending
    pending_push d x v lt =
        rw add-one (ap (λ (y : F). pending P L (set fs d x) d (complete P (L - d) (P.job y) (P.stage y) v)) (get_or-set_same fs d x P.none lt) ∙ pending_set d d x _ (omega arith))

    waiting_push : (d : ℕ) (x : F) → d < length fs → waiting P L (set fs d x) (d + 1) ≡ waiting P L fs d + iterations P (L - d) (P.job x) (P.stage x)
    unfolding waiting
    waiting_push d x lt = let r = waiting_set d d x (omega arith) in rw (add-one, get_or-set_same fs d x P.none lt, r)

    pending_pop : (d : ℕ) (v : W) → 0 < d → pending P L fs d v ≡ pending P L fs (d - 1) (complete P (L - (d - 1)) (P.job (get_or fs (d - 1) P.none)) (P.stage (get_or fs (d - 1) P.none)) v)
    unfolding pending
    pending_pop zero v l = absurd (omega arith)
    pending_pop (suc d) v l = let e : suc d - 1 ≡ d = omega arith in rw e

    waiting_pop : (d : ℕ) → 0 < d → waiting P L fs d ≡ waiting P L fs (d - 1) + iterations P (L - (d - 1)) (P.job (get_or fs (d - 1) P.none)) (P.stage (get_or fs (d - 1) P.none))
    unfolding waiting
    waiting_pop zero l = absurd (omega arith)
    waiting_pop (suc d) l = let e : suc d - 1 ≡ d = omega arith in rw e

  stands : (L : ℕ) (fs : List F) (d : ℕ) (top : F) (w answer : W)
      → length fs ≡ L → Fits P (L - d) (P.job top) → ((i : ℕ) → i < d → Fits P (L - i) (P.job (get_or fs i P.none)))
      → pending P L fs d (complete P (L - d) (P.job top) (P.stage top) w) ≡ answer → Stands P L fs d top w answer
  stands L fs d top w answer a h k e =
      let p = fits_some (L - d) (P.job top) h in
      record { slots = a; deep = omega arith; ok = fits_ok (L - d) (P.job top) h; here = h; below = k; same = e }

  pub stands_first : (L : ℕ) (fs : List F) (root : F) (w : W) → length fs ≡ L → Fits P L (P.job root) → Stands P L fs 0 root w (complete P L (P.job root) (P.stage root) w)
  unfolding pending
  stands_first L fs root w a h =
      let z : L - 0 ≡ L = omega arith in
      stands L fs 0 root w _ a (rw z h) (λ i l. absurd (omega arith)) (rw z)

  module _ (L : ℕ) (fs : List F) (d : ℕ) (top : F) (w w' answer : W) (S : Stands P L fs d top w answer) where
    -- `top`, at its next stage, is put away, and its child is taken up
    pub stands_push : (put next : F) → P.stage top < P.children (P.job top)
        → P.job put ≡ P.job top → P.stage put ≡ P.stage top + 1
        → P.job next ≡ P.child (P.job top) (P.stage top) → P.stage next ≡ 0
        → w' ≡ P.before (P.job top) (P.stage top) w
        → Stands P L (set fs d put) (d + 1) next w' answer
    stands_push put next l pj ps nj nz e =
        let lt : d < length fs = omega (arith, S.slots, S.deep) in
        let sub : L - d - 1 ≡ L - (d + 1) = omega arith in
        let child = fits_child (L - d) (P.job top) (P.stage top) S.here l in
        let child' = rw (sub, ← nj) at child in
        let step = complete_next (L - d) (P.job top) (P.stage top) w S.here l in
        stands L (set fs d put) (d + 1) next w' answer
        (length-set fs d put ∙ S.slots)
        child'
        (below_more _ _ (λ i h. let ne : i ≢ d = omega arith in rw (get_or-set_other fs d i put P.none) (S.below i h))
        (rw (get_or-set_same fs d put P.none lt, pj) S.here))
        (pending_push L fs d put _ lt ∙ ap (pending P L fs d) (cc) ∙ S.same)

    pub falls_push : (put next : F) → P.stage top < P.children (P.job top)
        → P.job put ≡ P.job top → P.stage put ≡ P.stage top + 1
        → P.job next ≡ P.child (P.job top) (P.stage top) → P.stage next ≡ 0
        → left P L (set fs d put) (d + 1) next < left P L fs d top
    falls_push put next l pj ps nj nz =
        let lt : d < length fs = omega (arith, S.slots, S.deep) in
        let sub : L - d - 1 ≡ L - (d + 1) = omega arith in
        let a = waiting_push L fs d put lt in
        let b = iterations_next (L - d) (P.job top) (P.stage top) S.here l in
        let x : iterations P (L - d) (P.job put) (P.stage put) ≡ iterations P (L - d) (P.job top) (P.stage top + 1) = cc in
        let y : iterations P (L - (d + 1)) (P.job next) (P.stage next) ≡ iterations P (L - d - 1) (P.child (P.job top) (P.stage top)) 0 = cc in
        omega arith

    pub stands_pop : P.children (P.job top) ≤ P.stage top → 0 < d → w' ≡ P.after (P.job top) w → Stands P L fs (d - 1) (get_or fs (d - 1) P.none) w' answer
    stands_pop l p e =
        let last = complete_last (L - d) (P.job top) (P.stage top) w S.here l in
        let pop = pending_pop L fs d w' p in
        let same = S.same in
        stands L fs (d - 1) (get_or fs (d - 1) P.none) w' answer S.slots (S.below (d - 1) (omega arith)) (λ i h. S.below i (omega arith)) (cc)

    pub falls_pop : P.children (P.job top) ≤ P.stage top → 0 < d → left P L fs (d - 1) (get_or fs (d - 1) P.none) < left P L fs d top
    falls_pop l p =
        let a = waiting_pop L fs d p in
        let b = iterations_last (L - d) (P.job top) (P.stage top) S.here l in
        omega arith

    pub stands_done : P.children (P.job top) ≤ P.stage top → d ≡ 0 → w' ≡ P.after (P.job top) w → w' ≡ answer
    unfolding pending
    stands_done l z e =
        let last = complete_last (L - d) (P.job top) (P.stage top) w S.here l in
        let same = S.same in
        let none : pending P L fs d w' ≡ w' = rw z in
        cc
