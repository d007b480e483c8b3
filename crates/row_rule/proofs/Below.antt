-- Numbers stay below 2^64.
use Rattle.std.proofs.Common.{ℕ, ◌^◌, ◌<◌, Bool, true, List, arith}
use Rattle.std.proofs.lemmas.Bool.{cond_both}
use Rattle.hash_state.specs.Combine.{C}
use Rattle.hash_state.specs.Writes.{Write}
use Rattle.image.specs.Slot.{Slot, Slots, Entries, null, nothing, boolean, number, float, text, binary, view, refer, struct, sequence, entries, done, ◌⨾◌, none, entry}
use Rattle.row_rule.specs.Laws.{StaysBelow}
use Rattle.row_rule.specs.Number.{combined, elements, is_null, number_of, pairs}

abbrev Word : ℕ → Type 0
Word n = n < 2 ^ 64

pub C_below : (l r : ℕ) → C l r < 2 ^ 64
C_below l r = omega arith

module _ (ONE : List Write → ℕ) (SEED : ℕ → List Write → ℕ) (one : (ws : List Write) → Word (ONE ws)) (seed : (s : ℕ) → Word s → (ws : List Write) → Word (SEED s ws)) where
  combined_word : (first : Bool) (e v : ℕ) → Word v → Word (combined first e v)
  combined_word first e v h = cond_both first v (C v e) Word (λ _. h) (λ _. C_below v e)

  elements_word : (ss : Slots) (e : ℕ) → Word e → Word (elements ONE SEED e ss)
  unfolding number_of
  elements_word done e h = h
  elements_word (s ⨾ ss) e h = elements_word ss _ (C_below e _)

  pairs_word : (es : Entries) (e : ℕ) → Word e → Word (pairs ONE SEED e es)
  unfolding number_of
  pairs_word none e h = h
  pairs_word (entry k v es) e h = pairs_word es _ (C_below e _)

  number_word : (first : Bool) (e : ℕ) (s : Slot) → Word e → Word (number_of ONE SEED first e s)
  unfolding number_of
  number_word first e null h = h
  number_word first e nothing h = combined_word first e _ (one _)
  number_word first e (boolean b) h = combined_word first e _ (one _)
  number_word first e (number w n) h = cond_both first _ _ Word (λ _. one _) (λ _. seed e h _)
  number_word first e (float w n) h = cond_both first _ _ Word (λ _. one _) (λ _. seed e h _)
  number_word first e (text bytes) h = combined_word first e _ (one _)
  number_word first e (binary bytes) h = combined_word first e _ (one _)
  number_word first e (view bytes) h = cond_both first _ _ Word (λ _. one _) (λ _. seed e h _)
  number_word first e (refer s) h = cond_both (is_null s) _ _ Word (λ _. h) (λ _. combined_word first e _ (number_word true 0 s (omega arith)))
  number_word first e (struct ss) h = C_below e _
  number_word first e (sequence ss) h = elements_word ss e h
  number_word first e (entries es) h = pairs_word es e h

pub stays_below : StaysBelow
stays_below ONE SEED one seed = number_word ONE SEED one seed
