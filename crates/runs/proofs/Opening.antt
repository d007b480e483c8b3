-- Words of the work that stay.
use Rattle.std.proofs.Common.{◌≡◌, ℕ, ◌-◌, ◌≤◌, Bool, false, ◌||◌, List, [], ◌∷◌, ◌++◌, length, take, drop, get_or, sym, ap, ◌∙◌, arith, inl, inr, length-append, length-drop, length-take-le}
use Rattle.std.proofs.lemmas.Bool.{cases_lt, or_parts}
use Rattle.std.proofs.lemmas.List.{get_or-take, get_or-drop, get_or_append_left, get_or-append_right}
use Rattle.std.proofs.Math.Bool.{or-false, or_assoc}
use Rattle.columns.specs.Open.{OthersStay}
use Rattle.runs.specs.Requests.{Request, Reply}
use Rattle.runs.specs.Open.{opened, opens}

-- of all words the first n are lent, and of these others stay than those that are free: so they do of all
pub stays_part : (free : ℕ → Bool) (n : ℕ) (words new : List ℕ) → n ≤ length words → OthersStay free (take n words) new → OthersStay free words (new ++ drop n words)
stays_part free n words new h s = (omega (arith, length-append new (drop n words), length-drop n words, s.0, m, h), same)
  where
    m : length (take n words) ≡ n
    m = length-take-le n words h

    same : (k : ℕ) → free k ≡ false → get_or (new ++ drop n words) k 0 ≡ get_or words k 0
    same k shut =
        elim (cases_lt k n) [
          | inl b ↦ get_or_append_left new (drop n words) 0 k (omega (arith, b, s.0, m)) ∙ s.1 k shut ∙ get_or-take n words k 0 b
          | inr b ↦
              get_or-append_right new (drop n words) n k 0 (s.0 ∙ m) b
              ∙ get_or-drop n words (k - n) 0
              ∙ ap (λ (j : ℕ). get_or words j 0) (omega (arith, b))
        ]

-- one call after another: what is free to neither stays
pub stays_after : (f g both : ℕ → Bool) (old between new : List ℕ) → ((k : ℕ) → both k ≡ false → (f k ≡ false) × (g k ≡ false))
    → OthersStay f old between → OthersStay g between new → OthersStay both old new
stays_after f g both old between new parts s t = (t.0 ∙ s.0, λ k shut. t.1 k (parts k shut).1 ∙ s.1 k (parts k shut).0)

-- a list of calls and one more
opened_more : (requests : List Request) (replies : List Reply) (q : Request) (r : Reply) (k : ℕ) → length requests ≡ length replies
    → opened (requests ++ q ∷ []) (replies ++ r ∷ []) k ≡ (opened requests replies k || opens q r k)
opened_more [] [] q r k l = or-false (opens q r k)
opened_more [] (y ∷ replies) q r k l = absurd (omega (arith, l))
opened_more (x ∷ requests) [] q r k l = absurd (omega (arith, l))
opened_more (x ∷ requests) (y ∷ replies) q r k l =
    ap (λ (b : Bool). opens x y k || b) (opened_more requests replies q r k (omega (arith, l)))
    ∙ sym (or_assoc (opens x y k) (opened requests replies k) (opens q r k))

pub opened_parts : (requests : List Request) (replies : List Reply) (q : Request) (r : Reply) → length requests ≡ length replies
    → (k : ℕ) → opened (requests ++ q ∷ []) (replies ++ r ∷ []) k ≡ false → (opened requests replies k ≡ false) × (opens q r k ≡ false)
opened_parts requests replies q r l k shut = or_parts _ _ (sym (opened_more requests replies q r k l) ∙ shut)
