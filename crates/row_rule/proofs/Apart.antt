-- Slots that combine keep entries apart.
use Rattle.std.proofs.Common.{◌≡◌, ℕ, ◌+◌, ◌*◌, ◌/◌, ◌^◌, ◌<◌, Bool, true, false, cond, List, ap, arith}
use Rattle.std.proofs.lemmas.Bool.{true≢false}
use Rattle.hash_state.specs.Combine.{C}
use Rattle.hash_state.specs.Writes.{Write}
use Rattle.image.specs.Slot.{Slot, Slots, Entries, null, nothing, boolean, text, binary, refer, struct, sequence, entries, done, ◌⨾◌, none, entry}
use Rattle.row_rule.specs.Laws.{StaysApart, combines}
use Rattle.row_rule.specs.Number.{elements, is_null, number_of, pairs}
use Rattle.row_rule.proofs.Below.{C_below}

same_rest : (a b s t : ℕ) → a < 2 ^ 64 → b < 2 ^ 64 → a + 2 ^ 64 * s ≡ b + 2 ^ 64 * t → a ≡ b
same_rest a b s t ha hb e = omega arith

-- 1495681951922396077 times 37 is 1 above a multiple of 2 ^ 64
C_left : (a b r : ℕ) → a < 2 ^ 64 → b < 2 ^ 64 → C a r ≡ C b r → a ≡ b
C_left a b r ha hb e =
    let p : ℕ = ((629 + a) * 37 + r) / 2 ^ 64 in
    let q : ℕ = ((629 + b) * 37 + r) / 2 ^ 64 in
    same_rest a b (3 * a + 1495681951922396077 * q) (3 * b + 1495681951922396077 * p) ha hb (omega arith)

C_right : (l a b : ℕ) → a < 2 ^ 64 → b < 2 ^ 64 → C l a ≡ C l b → a ≡ b
C_right l a b ha hb e = omega arith

module _ (ONE : List Write → ℕ) (SEED : ℕ → List Write → ℕ) where
  elements_apart : (ss : Slots) (a b : ℕ) → a < 2 ^ 64 → b < 2 ^ 64 → elements ONE SEED a ss ≡ elements ONE SEED b ss → a ≡ b
  unfolding number_of
  elements_apart done a b ha hb e = e
  elements_apart (s ⨾ ss) a b ha hb e =
      let v = number_of ONE SEED true 0 s in
      C_left a b v ha hb (elements_apart ss (C a v) (C b v) (C_below a v) (C_below b v) e)

  pairs_apart : (es : Entries) (a b : ℕ) → a < 2 ^ 64 → b < 2 ^ 64 → pairs ONE SEED a es ≡ pairs ONE SEED b es → a ≡ b
  unfolding number_of
  pairs_apart none a b ha hb e = e
  pairs_apart (entry k x es) a b ha hb e =
      let v = number_of ONE SEED false (number_of ONE SEED true 0 k) x in
      C_left a b v ha hb (pairs_apart es (C a v) (C b v) (C_below a v) (C_below b v) e)

  refer_first : (t : Bool) (x y a b : ℕ) → t ≡ true → cond t a x ≡ cond t b y → a ≡ b
  refer_first true x y a b c e = e
  refer_first false x y a b c e = absurd (true≢false (mathlib.Core.Path.sym c))

  refer_later : (t : Bool) (v a b : ℕ) → a < 2 ^ 64 → b < 2 ^ 64 → cond t a (C v a) ≡ cond t b (C v b) → a ≡ b
  refer_later true v a b ha hb e = e
  refer_later false v a b ha hb e = C_right v a b ha hb e

  no : {A : Type 0} → false ≡ true → A
  no e = absurd (true≢false (mathlib.Core.Path.sym e))

  apart : (first : Bool) (s : Slot) (a b : ℕ) → a < 2 ^ 64 → b < 2 ^ 64 → combines first s ≡ true → number_of ONE SEED first a s ≡ number_of ONE SEED first b s → a ≡ b
  unfolding number_of
  apart first null a b ha hb c e = e
  apart false nothing a b ha hb c e = C_right _ a b ha hb e
  apart false (boolean x) a b ha hb c e = C_right _ a b ha hb e
  apart false (text x) a b ha hb c e = C_right _ a b ha hb e
  apart false (binary x) a b ha hb c e = C_right _ a b ha hb e
  apart true (refer s) a b ha hb c e = refer_first (is_null s) _ _ a b c e
  apart false (refer s) a b ha hb c e = refer_later (is_null s) _ a b ha hb e
  apart first (struct ss) a b ha hb c e = C_left a b _ ha hb e
  apart first (sequence ss) a b ha hb c e = elements_apart ss a b ha hb e
  apart first (entries es) a b ha hb c e = pairs_apart es a b ha hb e
  apart first s a b ha hb c e = no c

pub stays_apart : StaysApart
stays_apart ONE SEED first s a b ha hb c = (apart ONE SEED first s a b ha hb c, ap (λ (n : ℕ). number_of ONE SEED first n s))
