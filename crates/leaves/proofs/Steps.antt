-- One turn of the loop that maps entries in place, by their places.
use Rattle.std.proofs.Common.{◌≡◌, ℕ, ◌+◌, ◌<◌, ◌≤◌, Bool, true, false, List, [], ◌∷◌, ◌++◌, length, get_or, take, drop, set, sym, ap, ◌∙◌, append_assoc, append-nil, arith}
use Rattle.std.proofs.lemmas.List.{take_more_set, drop-set-lt, at_drop_more, at_drop_all, take_all}
use Rattle.hash_state.specs.Combine.{later}
use Rattle.hash_state.specs.Writes.{Write}
use Rattle.image.specs.Slot.{Slot, null}
use Rattle.row_rule.specs.Number.{number_of}
use Rattle.leaves.specs.Rows.{by_place}
use Rattle.leaves.specs.Tells.{Tells}

-- what is made so far, and what is left to be made
abbrev pub Made : (ℕ → ℕ → ℕ) → ℕ → List ℕ → List ℕ
Made f i es = take i es ++ by_place f i (drop i es)

module _ (f : ℕ → ℕ → ℕ) (es : List ℕ) (i : ℕ) (within : i < length es) where
  left : (y : ℕ) → y ≡ f i (get_or es i 0) → (take i es ++ y ∷ []) ++ by_place f (i + 1) (drop (i + 1) es) ≡ Made f i es
  left y e =
      append_assoc (take i es) (y ∷ []) _
      ∙ ap (λ (z : ℕ). take i es ++ (z ∷ by_place f (i + 1) (drop (i + 1) es))) e
      ∙ sym (ap (λ (r : List ℕ). take i es ++ r) (at_drop_more (by_place f i) es i 0 within))

  pub made_written : (y : ℕ) → y ≡ f i (get_or es i 0) → Made f (i + 1) (set es i y) ≡ Made f i es
  made_written y e =
      let lt : i < i + 1 = omega arith in
      rw (take_more_set es i y within, drop-set-lt (i + 1) es i y lt) (left y e)

pub made_all : (f : ℕ → ℕ → ℕ) (es : List ℕ) (i : ℕ) → length es ≤ i → Made f i es ≡ es
made_all f es i h =
    ap (λ (r : List ℕ). take i es ++ r) (at_drop_all (by_place f i) es i h) ∙ append-nil (take i es) ∙ take_all i es h

module _ (ONE : List Write → ℕ) (SEED : ℕ → List Write → ℕ) (first : Bool) (e : ℕ) (s : Slot) where
  pub kept_null : s ≡ null → e ≡ number_of ONE SEED first e s
  unfolding number_of
  kept_null q = sym (ap (number_of ONE SEED first e) q)

  module _ {seeding : Bool} {writes seeds : List Write} (told : Tells seeding writes seeds s) where
    pub first_told : first ≡ true → ONE writes ≡ number_of ONE SEED first e s
    first_told p = sym (ap (λ (b : Bool). number_of ONE SEED b e s) p ∙ told.when_first ONE SEED e)

    pub later_told : first ≡ false → later seeding (SEED e seeds) (ONE writes) e ≡ number_of ONE SEED first e s
    later_told p = sym (ap (λ (b : Bool). number_of ONE SEED b e s) p ∙ told.when_later ONE SEED e)
