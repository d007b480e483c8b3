-- The row rule at a slot with children is the fold of its children's numbers.
use Rattle.std.proofs.Common.{◌≡◌, ℕ, zero, suc, ◌+◌, ◌*◌, ◌<◌, Bool, true, false, cond, ◌&&◌, eqb, List, map, Some, None, Option, sym, refl, ap, ◌∙◌, add-one, arith}
use Rattle.std.proofs.lemmas.Bool.{cond-false, ne_eqb}
use Rattle.std.specs.List.{range_with_len}
use Rattle.layout.specs.declared.bytes.Width.TheVariants.{Four}
use Rattle.layout.specs.declared.record.Record.{Record}
use Rattle.layout.specs.declared.data_type.DataType.{DataType}
use Rattle.layout.specs.declared.data_type.DataType.TheVariants.{Null, Dictionary, Struct, List as ListOf, ListView, Map, FixedSizeList, RunEnd}
use Rattle.layout.specs.Nodes.{child, element, listed, marked, reads_nulls, table, typed_mark}
use Rattle.layout.specs.Records.{record_at}
use Rattle.layout.specs.Types.{data_type}
use Rattle.hash_state.specs.Combine.{C}
use Rattle.hash_state.specs.Writes.{Write}
use Rattle.image.specs.Read.{offset, run_of, sequence_of, slot_within, span, typed_slot, unmarked}
use Rattle.image.specs.Slot.{Slot, null, paired, refer, slots}
use Rattle.row_rule.specs.Number.{combined, elements, fields, is_null, number_of, pairs}
use Rattle.columns.specs.Fold.{combined_all, entry, folded, is_first, is_marked, referred, row_number, through}

module _ (ONE : List Write → ℕ) (SEED : ℕ → List Write → ℕ) where
  elements_all : (g : ℕ → Slot) (count e from : ℕ) → elements ONE SEED e (slots (map g (range_with_len from count))) ≡ combined_all (λ q. number_of ONE SEED true 0 (g q)) e from count
  unfolding number_of combined_all
  elements_all g zero e from = refl
  elements_all g (suc count) e from = elements_all g count (C e (number_of ONE SEED true 0 (g from))) (from + 1)

  pairs_all : (k v : ℕ → Slot) (count e from : ℕ)
      → pairs ONE SEED e (paired k v (range_with_len from count)) ≡ combined_all (λ q. number_of ONE SEED false (number_of ONE SEED true 0 (k q)) (v q)) e from count
  unfolding number_of combined_all
  pairs_all k v zero e from = refl
  pairs_all k v (suc count) e from = pairs_all k v count (C e (number_of ONE SEED false (number_of ONE SEED true 0 (k from)) (v from))) (from + 1)

  -- later fields, each from where the one before came to
  fields_later : (g : ℕ → Slot) (n s x : ℕ)
      → fields ONE SEED false x (slots (map g (range_with_len (s + 1) n))) ≡ through (λ k y. number_of ONE SEED (is_first k) (entry k y) (g k)) n (s + 1) x
  unfolding number_of through
  fields_later g zero s x = refl
  fields_later g (suc n) s x =
      let one : number_of ONE SEED false x (g (s + 1)) ≡ number_of ONE SEED (is_first (s + 1)) (entry (s + 1) x) (g (s + 1)) = rw add-one in
      ap (λ (y : ℕ). fields ONE SEED false y (slots (map g (range_with_len (s + 1 + 1) n)))) one ∙ fields_later g n (s + 1) _

  fields_all : (g : ℕ → Slot) (n : ℕ) → fields ONE SEED true 0 (slots (map g (range_with_len 0 n))) ≡ through (λ k y. number_of ONE SEED (is_first k) (entry k y) (g k)) n 0 0
  unfolding number_of through
  fields_all g zero = refl
  fields_all g (suc n) = fields_later g n 0 _

  -- the number of a child row, through all children
  abbrev pub values : DataType → List ℕ → Record → (ℕ → ℕ → Slot) → ℕ → ℕ
  values t bytes r down q = through (λ s x. number_of ONE SEED (is_first s) (entry s x) (down (child bytes r s) q)) (listed (table t) r.cnt) 0 0

  through_one : (g : ℕ → ℕ → ℕ) (m : ℕ) → m ≡ 1 → through g m 0 0 ≡ g 0 0
  unfolding through
  through_one g m e = rw e

  through_two : (g : ℕ → ℕ → ℕ) (m : ℕ) → m ≡ 2 → through g m 0 0 ≡ g 1 (g 0 0)
  unfolding through
  through_two g m e = rw e

  through_none : (g : ℕ → ℕ → ℕ) (m : ℕ) → cond (eqb m 0) 0 (through g m 0 0) ≡ through g m 0 0
  unfolding through
  through_none g zero = refl
  through_none g (suc m) = cond-false (eqb (suc m) 0) 0 (through g (suc m) 0 0) (ne_eqb (suc m) 0 (λ e. omega arith))

-- an unmarked slot is none that is marked null
unmarked_there : (t : DataType) (bytes : List ℕ) (r : Record) (down : ℕ → ℕ → Slot) (row at : ℕ) → is_null (unmarked t bytes r down row at) ≡ false
unmarked_there Null bytes r down row at = refl
unmarked_there t bytes r down row at = refl

null_cond : (b : Bool) (s : Slot) → is_null s ≡ false → is_null (cond b null s) ≡ b
null_cond true s e = refl
null_cond false s e = e

-- a slot is null where its row is marked
pub marked_slot : (levels : ℕ) (bytes : List ℕ) (node row : ℕ) (t : DataType) → data_type (record_at bytes node) ≡ Some t
    → is_null (slot_within (suc levels) bytes node row) ≡ is_marked bytes node row
marked_slot levels bytes node row t typed =
    ap (λ (o : Option DataType). is_null (elim o as (λ _. Slot) [ None ↦ null | Some s ↦ typed_slot s bytes (record_at bytes node) (slot_within levels bytes) row ])) typed
    ∙ null_cond (reads_nulls t && marked bytes (record_at bytes node) row) _ (unmarked_there t bytes (record_at bytes node) (slot_within levels bytes) row ((record_at bytes node).start + row))
    ∙ sym (ap (λ (o : Option DataType). typed_mark o bytes (record_at bytes node) row) typed)

-- a node with children: its children are there
abbrev pub Counted : DataType → ℕ → Type 0
Counted (Dictionary w signed) n = n ≡ 1
Counted Struct n = Unit {0}
Counted (ListOf w) n = n ≡ 1
Counted (ListView w) n = n ≡ 1
Counted Map n = n ≡ 2
Counted (FixedSizeList p) n = n ≡ 1
Counted (RunEnd w) n = n ≡ 1
Counted t n = ⊥

module _ (ONE : List Write → ℕ) (SEED : ℕ → List Write → ℕ) (bytes : List ℕ) (r : Record) (down : ℕ → ℕ → Slot) where
  value : DataType → ℕ → ℕ
  value t = values ONE SEED t bytes r down

  -- one child: its number at a row
  one_child : (t : DataType) (q : ℕ) → listed (table t) r.cnt ≡ 1 → value t q ≡ number_of ONE SEED true 0 (down (child bytes r 0) q)
  unfolding value
  one_child t q e = through_one ONE SEED (λ s x. number_of ONE SEED (is_first s) (entry s x) (down (child bytes r s) q)) (listed (table t) r.cnt) e

  all_same : (f g : ℕ → ℕ) (count e from : ℕ) → ((q : ℕ) → f q ≡ g q) → combined_all f e from count ≡ combined_all g e from count
  unfolding combined_all
  all_same f g zero e from same = refl
  all_same f g (suc count) e from same = ap (λ (x : ℕ). combined_all f (C e x) (from + 1) count) (same from) ∙ all_same f g count _ (from + 1) same

  sequence_rule : (t : DataType) (from count e : ℕ) → listed (table t) r.cnt ≡ 1
      → number_of ONE SEED true e (sequence_of (down (child bytes r 0)) from count) ≡ combined_all (value t) e from count
  unfolding number_of
  sequence_rule t from count e one =
      elements_all ONE SEED (down (child bytes r 0)) count e from ∙ all_same _ (value t) count e from (λ q. sym (one_child t q one))

  refer_rule : (t : DataType) (first : Bool) (e q : ℕ) → listed (table t) r.cnt ≡ 1 → is_null (down (child bytes r 0) q) ≡ is_marked bytes (child bytes r 0) q
      → number_of ONE SEED first e (refer (down (child bytes r 0) q)) ≡ referred bytes r (value t) first e q
  unfolding number_of
  refer_rule t first e q one mark =
      ap (λ (b : Bool). cond b e (combined first e (number_of ONE SEED true 0 (down (child bytes r 0) q)))) mark
      ∙ ap (λ (x : ℕ). cond (is_marked bytes (child bytes r 0) q) e (combined first e x)) (sym (one_child t q one))

  -- the number of an unmarked row is the fold of the numbers of its child rows
  unmarked_rule : (t : DataType) (first : Bool) (e row at : ℕ) → Counted t r.cnt
      → ((q : ℕ) → 0 < listed (table t) r.cnt → is_null (down (child bytes r 0) q) ≡ is_marked bytes (child bytes r 0) q)
      → number_of ONE SEED first e (unmarked t bytes r down row at) ≡ folded t bytes r (value t) first e at
  unfolding number_of value
  unmarked_rule (Dictionary w signed) first e row at n mark = refer_rule (Dictionary w signed) first e (element w bytes r.a at) n (mark _ (omega arith))
  unmarked_rule Struct first e row at n mark = ap (C e) (fields_all ONE SEED (λ k. down (child bytes r k) at) r.cnt ∙ sym (through_none ONE SEED _ r.cnt))
  unmarked_rule (ListOf w) first e row at n mark = sequence_rule (ListOf w) (offset w bytes r at) (span w bytes r at) e n
  unmarked_rule (ListView w) first e row at n mark = sequence_rule (ListView w) (element w bytes r.a at) (element w bytes r.b at) e n
  unmarked_rule Map first e row at n mark =
      pairs_all ONE SEED (down (child bytes r 0)) (down (child bytes r 1)) (span Four bytes r at) e (offset Four bytes r at)
      ∙ all_same _ (value Map) (span Four bytes r at) e (offset Four bytes r at)
      (λ q. sym (through_two ONE SEED (λ s x. number_of ONE SEED (is_first s) (entry s x) (down (child bytes r s) q)) r.cnt n))
  unmarked_rule (FixedSizeList p) first e row at n mark = sequence_rule (FixedSizeList p) (p * at) p e n
  unmarked_rule (RunEnd w) first e row at n mark = refer_rule (RunEnd w) first e (run_of w bytes r at) n (mark _ (omega arith))
  unmarked_rule t first e row at n mark = absurd n

  -- and of any row
  pub row_rule : (t : DataType) (first : Bool) (e row : ℕ) → Counted t r.cnt
      → ((q : ℕ) → 0 < listed (table t) r.cnt → is_null (down (child bytes r 0) q) ≡ is_marked bytes (child bytes r 0) q)
      → number_of ONE SEED first e (typed_slot t bytes r down row) ≡ row_number t bytes r (values ONE SEED t bytes r down) first e row
  unfolding value number_of
  row_rule t first e row n mark = by_mark (reads_nulls t && marked bytes r row)
    where
      by_mark : (b : Bool)
          → number_of ONE SEED first e (cond b null (unmarked t bytes r down row (r.start + row))) ≡ cond b e (folded t bytes r (values ONE SEED t bytes r down) first e (r.start + row))
      by_mark true = refl
      by_mark false = unmarked_rule t first e row (r.start + row) n mark
