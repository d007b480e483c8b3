-- The 16 bytes of a short view are its length and its bytes, with zeros behind them.
use Rattle.std.proofs.Common.{◌≡◌, ℕ, zero, suc, ◌+◌, ◌-◌, ◌*◌, ◌^◌, ◌<◌, ◌≤◌, Bool, true, false, cond, not, ◌&&◌, eqb, leb, List, [], ◌∷◌, length, get_or, take, drop, sym, refl, ap, ◌∙◌, subst, ap₂, inl, inr, arith}
use Rattle.std.proofs.lemmas.List.{at_drop_more, drop_all, drop-drop, drop-take, length-drop, length-take-le, take_all, take-take}
use Rattle.std.proofs.lemmas.Bool.{cases_lt, cond-false, cond-true, eqb-true, le-leb, le-ltb, lt-leb, lt-ltb, not-false}
use Rattle.layout.specs.Bytes.{field}
use Rattle.layout.specs.declared.record.Record.{Record}
use Rattle.layout.specs.Nodes.{marked}
use Rattle.layout.specs.Views.{buffer_place, is_long, view_buffer, view_length, view_offset, view_place}
use Rattle.admission.specs.Rejections.{bad_padding, bad_prefix, bad_view}
use Rattle.admission.specs.Seams.{ViewThere}
use Rattle.admission.proofs.Below.{none_at}
use Rattle.hash_state.specs.Values as tell
use Rattle.hash_state.specs.Writes.{Pair}
use Rattle.image.specs.Read.{part, view_bytes_place}
use Rattle.row_rule.specs.Number.{le_number, view_writes}

-- n bytes and zeros behind them, up to m, are one field of m bytes
spelled : (bytes : List ℕ) (m n p : ℕ) → n ≤ m → p + m ≤ length bytes → ((k : ℕ) → n ≤ k → k < m → get_or bytes (p + k) 0 ≡ 0) → le_number (take n (drop p bytes)) ≡ field m bytes p
spelled bytes zero n p h i z = let q : n ≡ 0 = omega arith in rw q refl
spelled bytes (suc m) zero p h i z =
    let here : get_or bytes p 0 ≡ 0 = subst (λ (k : ℕ). get_or bytes k 0 ≡ 0) (omega arith) (z 0 (omega arith) (omega arith)) in
    let rest : 0 ≡ field m bytes (p + 1) =
    spelled bytes m zero (p + 1) (omega arith) (omega arith) (λ k a b. subst (λ (j : ℕ). get_or bytes j 0 ≡ 0) (omega arith) (z (k + 1) (omega arith) (omega arith))) in
    omega arith
spelled bytes (suc m) (suc n) p h i z =
    let rest : le_number (take n (drop (p + 1) bytes)) ≡ field m bytes (p + 1) =
    spelled bytes m n (p + 1) (omega arith) (omega arith) (λ k a b. subst (λ (j : ℕ). get_or bytes j 0 ≡ 0) (omega arith) (z (k + 1) (omega arith) (omega arith))) in
    at_drop_more (λ (l : List ℕ). le_number (take (suc n) l)) bytes p 0 (omega arith) ∙ ap (λ (x : ℕ). get_or bytes p 0 + 256 * x) rest

module _ (bytes : List ℕ) (place size : ℕ) (inside : place + size ≤ length bytes) where
  length-part : length (part bytes place size) ≡ size
  length-part = length-take-le size (drop place bytes) (omega (arith, length-drop place bytes))

-- the low word of a view, by its halves
pub low_word : (bytes : List ℕ) (v : ℕ) → field 8 bytes v ≡ view_length bytes v + 2 ^ 32 * field 4 bytes (v + 4)
low_word bytes v =
    let q : v + 1 + 1 + 1 + 1 ≡ v + 4 = omega arith in
    let h : field 4 bytes (v + 1 + 1 + 1 + 1) ≡ field 4 bytes (v + 4) = ap (field 4 bytes) q in
    omega arith

module _ (bytes : List ℕ) (v : ℕ) (inside : v + 16 ≤ length bytes) (short : view_length bytes v ≤ 12) (padded : bad_padding bytes v ≡ false) where
  abbrev size : ℕ
  size = view_length bytes v

  abbrev own : List ℕ
  own = part bytes (v + 4) size

  zeros : (k : ℕ) → size ≤ k → k < 12 → get_or bytes (v + 4 + k) 0 ≡ 0
  zeros k a b =
      let test : ℕ → Bool = λ j. not (eqb (get_or bytes (v + 4 + size + j) 0) 0) in
      let q : v + 4 + size + (k - size) ≡ v + 4 + k = omega arith in
      let none : test (k - size) ≡ false = none_at (12 - size) test (k - size) padded (omega arith) in
      subst (λ (j : ℕ). get_or bytes j 0 ≡ 0) q (eqb-true _ 0 (not-false _ none))

  -- the first four bytes, and the other eight
  first_four : le_number (take 4 own) ≡ field 4 bytes (v + 4)
  first_four =
      elim (cases_lt size 4) [
        | inl few ↦
            ap le_number (take_all 4 own (omega (arith, length-part bytes (v + 4) size (omega arith))))
            ∙ spelled bytes 4 size (v + 4) (omega arith) (omega arith) (λ k a b. zeros k a (omega arith))
        | inr many ↦
            ap le_number (take-take 4 size (drop (v + 4) bytes) many)
            ∙ spelled bytes 4 4 (v + 4) (omega arith) (omega arith) (λ k a b. absurd (omega arith))
      ]

  others : le_number (drop 4 own) ≡ field 8 bytes (v + 8)
  others =
      elim (cases_lt size 4) [
        | inl few ↦
            ap le_number (drop_all 4 own (omega (arith, length-part bytes (v + 4) size (omega arith))))
            ∙ spelled bytes 8 0 (v + 8) (omega arith) (omega arith) (λ k a b. behind k (omega arith) b)
        | inr many ↦
            let q : size ≡ 4 + (size - 4) = omega arith in
            let r : v + 4 + 4 ≡ v + 8 = omega arith in
            ap (λ (n : ℕ). le_number (drop 4 (take n (drop (v + 4) bytes)))) q
            ∙ ap le_number (drop-take 4 (size - 4) (drop (v + 4) bytes))
            ∙ ap (λ (l : List ℕ). le_number (take (size - 4) l)) (drop-drop 4 (v + 4) bytes)
            ∙ ap (λ (p : ℕ). le_number (take (size - 4) (drop p bytes))) r
            ∙ spelled bytes 8 (size - 4) (v + 8) (omega arith) (omega arith) (λ k a b. behind k (omega arith) b)
      ]
    where
      behind : (k : ℕ) → size ≤ k + 4 → k < 8 → get_or bytes (v + 8 + k) 0 ≡ 0
      behind k a b = subst (λ (j : ℕ). get_or bytes j 0 ≡ 0) (omega arith) (zeros (k + 4) a (omega arith))

  -- a short view is told by its own 16 bytes, as two words
  pub inline_writes : Pair (field 8 bytes v) (field 8 bytes (v + 8)) ∷ [] ≡ view_writes own
  inline_writes =
      let long : length own ≡ size = length-part bytes (v + 4) size (omega arith) in
      let low : length own + 2 ^ 32 * le_number (take 4 own) ≡ field 8 bytes v = ap₂ (λ (n x : ℕ). n + 2 ^ 32 * x) long first_four ∙ sym (low_word bytes v) in
      sym
      (cond-true (leb (length own) 12) (Pair (length own + 2 ^ 32 * le_number (take 4 own)) (le_number (drop 4 own)) ∷ []) (tell.binary own) (le-leb (length own) 12 (omega arith))
      ∙ ap₂ (λ (x y : ℕ). Pair x y ∷ []) low others)

-- a longer view is told as binary
pub long_writes : (bytes : List ℕ) (place size : ℕ) → place + size ≤ length bytes → 12 < size → tell.binary (part bytes place size) ≡ view_writes (part bytes place size)
long_writes bytes place size inside long =
    let x : List ℕ = part bytes place size in
    sym (cond-false (leb (length x) 12) _ (tell.binary x) (lt-leb (length x) 12 (omega (arith, length-part bytes place size inside))))

-- what is told of an unmarked view, by the numbers that were read at its place
module _ (bytes : List ℕ) (r : Record) (row : ℕ) (there : ViewThere bytes r row) (unmarked : marked bytes r row ≡ false) (padded : bad_view bytes r row (view_place r row) ≡ false)
    (place size : ℕ) (placed : place ≡ view_place r row) (sized : size ≡ view_length bytes place) where
  abbrev v : ℕ
  v = view_place r row

  abbrev viewed : List ℕ
  viewed = part bytes (view_bytes_place bytes r v) (view_length bytes v)

  size_is : size ≡ view_length bytes v
  size_is = sized ∙ ap (view_length bytes) placed

  -- of a short one, the two words that are its 16 bytes
  pub inline_told : (low high : ℕ) → size ≤ 12 → low ≡ field 8 bytes place → high ≡ field 8 bytes (place + 8) → Pair low high ∷ [] ≡ view_writes viewed
  inline_told low high short l h =
      let few : view_length bytes v ≤ 12 = subst (λ (n : ℕ). n ≤ 12) size_is short in
      let is-short : is_long bytes v ≡ false = le-ltb 12 (view_length bytes v) few in
      let pad : bad_padding bytes v ≡ false =
      sym (ap₂ (λ (m l : Bool). not m && cond l (bad_prefix bytes r v) (bad_padding bytes v)) unmarked is-short) ∙ padded in
      ap₂ (λ (x y : ℕ). Pair x y ∷ []) (l ∙ ap (field 8 bytes) placed) (h ∙ ap (λ (p : ℕ). field 8 bytes (p + 8)) placed)
      ∙ inline_writes bytes v there.1 few pad
      ∙ ap (λ (p : ℕ). view_writes (part bytes p (view_length bytes v))) (sym (cond-false (is_long bytes v) _ (v + 4) is-short))

  -- of a long one, its bytes as binary
  pub long_told : (start : ℕ) → 12 < size → start ≡ buffer_place bytes r (view_buffer bytes place) + view_offset bytes place
      → tell.binary (part bytes start (start + size - start)) ≡ view_writes viewed
  long_told start long d =
      let more : 12 < view_length bytes v = subst (λ (n : ℕ). 12 < n) size_is long in
      let is-far : is_long bytes v ≡ true = lt-ltb 12 (view_length bytes v) more in
      let far : ℕ = buffer_place bytes r (view_buffer bytes v) + view_offset bytes v in
      let at : far ≡ view_bytes_place bytes r v = sym (cond-true (is_long bytes v) far (v + 4) is-far) in
      let from : start ≡ view_bytes_place bytes r v = d ∙ ap (λ (p : ℕ). buffer_place bytes r (view_buffer bytes p) + view_offset bytes p) placed ∙ at in
      let count : start + size - start ≡ size = omega arith in
      let inside : view_bytes_place bytes r v + view_length bytes v ≤ length bytes =
      subst (λ (p : ℕ). p + view_length bytes v ≤ length bytes) at (there.2 unmarked is-far).1 in
      ap₂ (λ (p n : ℕ). tell.binary (part bytes p n)) from (count ∙ size_is) ∙ long_writes bytes (view_bytes_place bytes r v) (view_length bytes v) inside more
