-- A slot is the same however many levels more it may go down, once there are as many as its node is high.
use Rattle.std.proofs.Common.{◌≡◌, ℕ, zero, suc, ◌+◌, ◌*◌, ◌<◌, ◌≤◌, true, false, cond, ◌&&◌, List, ◌∷◌, map, length, Some, None, Option, sym, refl, ap, ◌∙◌, ap₂, arith}
use mathlib.Core.Path.{fun_ext}
use Rattle.std.proofs.lemmas.Bool.{true≢false}
use Rattle.std.specs.List.{range_with_len}
use Rattle.layout.specs.declared.bytes.Width.TheVariants.{Four}
use Rattle.layout.specs.declared.record.Record.{Record}
use Rattle.layout.specs.declared.data_type.DataType.{DataType}
use Rattle.layout.specs.declared.data_type.DataType.TheVariants.{Dictionary, Struct, List as ListOf, ListView, Map, FixedSizeList, RunEnd}
use Rattle.layout.specs.Nodes.{child, child_count, element, listed, marked, reads_nulls, some_below, table}
use Rattle.layout.specs.Records.{nodes, record_at}
use Rattle.layout.specs.Types.{data_type}
use Rattle.admission.specs.FirstFault.{sound}
use Rattle.admission.specs.Rejections.{bad_table, higher}
use Rattle.admission.proofs.Below.{none_at}
use Rattle.admission.proofs.Links.{child_behind, children_parts}
use Rattle.admission.proofs.Sound.{sound_node}
use Rattle.image.specs.Levels.{DeepEnough}
use Rattle.image.specs.Read.{offset, sequence_of, slot_within, span, typed_slot, unmarked}
use Rattle.image.specs.Slot.{Slot, entries, null, paired, refer, slots, struct}

counting_same : (f g : ℕ → Slot) (n a b : ℕ) → a + n ≤ b → ((k : ℕ) → k < b → f k ≡ g k) → map f (range_with_len a n) ≡ map g (range_with_len a n)
counting_same f g zero a b l h = refl
counting_same f g (suc n) a b l h = ap₂ ◌∷◌ (h a (omega arith)) (counting_same f g n (a + 1) b (omega arith) h)

-- a slot depends on the slots of its node's children alone
module _ (bytes : List ℕ) (r : Record) (f g : ℕ → ℕ → Slot) (row at : ℕ) where
  unmarked_same : (t : DataType) → bad_table (length bytes) (table t) r ≡ false → ((k : ℕ) → k < listed (table t) r.cnt → (i : ℕ) → f (child bytes r k) i ≡ g (child bytes r k) i)
      → unmarked t bytes r f row at ≡ unmarked t bytes r g row at
  unmarked_same (Dictionary w signed) e same = ap refer (same 0 (children_parts (length bytes) 1 1 r e).0 _)
  unmarked_same Struct e same = ap (λ x. struct (slots x)) (counting_same _ _ r.cnt 0 r.cnt (omega arith) (λ k l. same k l at))
  unmarked_same (ListOf w) e same = ap (λ d. sequence_of d (offset w bytes r at) (span w bytes r at)) (fun_ext (same 0 (children_parts (length bytes) 1 1 r e).0))
  unmarked_same (ListView w) e same = ap (λ d. sequence_of d (element w bytes r.a at) (element w bytes r.b at)) (fun_ext (same 0 (children_parts (length bytes) 1 1 r e).0))
  unmarked_same Map e same =
      let two = (children_parts (length bytes) 2 2 r e).0 in
      ap₂ (λ k v. entries (paired k v (range_with_len (offset Four bytes r at) (span Four bytes r at)))) (fun_ext (same 0 (omega arith))) (fun_ext (same 1 (omega arith)))
  unmarked_same (FixedSizeList p) e same = ap (λ d. sequence_of d (p * at) p) (fun_ext (same 0 (children_parts (length bytes) 1 1 r e).0))
  unmarked_same (RunEnd w) e same = ap refer (same 0 (children_parts (length bytes) 1 1 r e).0 _)
  unmarked_same t e same = refl

module _ (bytes : List ℕ) (is-sound : sound bytes ≡ true) where
  abbrev by_type : (ℕ → ℕ → Slot) → ℕ → ℕ → Option DataType → Slot
  by_type down node row None = null
  by_type down node row (Some t) = typed_slot t bytes (record_at bytes node) down row

  slot_by_type : (levels node row : ℕ) → slot_within (suc levels) bytes node row ≡ by_type (slot_within levels bytes) node row (data_type (record_at bytes node))
  slot_by_type levels node row = of (data_type (record_at bytes node))
    where
      of : (o : Option DataType)
          → (elim o as (λ _. Slot) [ None ↦ null | Some t ↦ typed_slot t bytes (record_at bytes node) (slot_within levels bytes) row ]) ≡ by_type (slot_within levels bytes) node row o
      of None = refl
      of (Some t) = refl

  step : (h node row : ℕ) (f g : ℕ → ℕ → Slot) → higher bytes (suc h) node ≡ false → node < nodes bytes
      → ((c i : ℕ) → higher bytes h c ≡ false → c < nodes bytes → f c i ≡ g c i)
      → by_type f node row (data_type (record_at bytes node)) ≡ by_type g node row (data_type (record_at bytes node))
  step h node row f g low there same =
      let r : Record = record_at bytes node in
      let found = sound_node bytes is-sound node there in
      let t : DataType = found.0 in
      let count : child_count (data_type r) r ≡ listed (table t) r.cnt = ap (λ (o : Option DataType). child_count o r) found.1 in
      let lower : some_below (listed (table t) r.cnt) (λ k. higher bytes h (child bytes r k)) ≡ false =
      sym (ap (λ (n : ℕ). some_below n (λ k. higher bytes h (child bytes r k))) count) ∙ low in
      ap (by_type f node row) found.1
      ∙ ap (λ (s : Slot). cond (reads_nulls t && marked bytes r row) null s)
      (unmarked_same bytes r f g row (r.start + row) t found.2.tabled
      (λ k l i. same (child bytes r k) i (none_at (listed (table t) r.cnt) (λ k. higher bytes h (child bytes r k)) k lower l)
      (child_behind bytes node r (table t) found.2.tabled found.2.lined k l).2))
      ∙ sym (ap (by_type g node row) found.1)

  levels_same : (h f g node row : ℕ) → higher bytes h node ≡ false → node < nodes bytes → h ≤ f → h ≤ g → slot_within f bytes node row ≡ slot_within g bytes node row
  levels_same zero f g node row low there p q = absurd (true≢false low)
  levels_same (suc h) zero g node row low there p q = absurd (omega arith)
  levels_same (suc h) (suc f) zero node row low there p q = absurd (omega arith)
  levels_same (suc h) (suc f) (suc g) node row low there p q =
      slot_by_type f node row
      ∙ step h node row (slot_within f bytes) (slot_within g bytes) low there (λ c i l n. levels_same h f g c i l n (omega arith) (omega arith))
      ∙ sym (slot_by_type g node row)

  pub deep_enough : (node row : ℕ) → DeepEnough bytes node row
  deep_enough node row there more = levels_same 16 (16 + more) 16 node row (sound_node bytes is-sound node there).2.low there (omega arith) (omega arith)
