-- A completed job leaves the row rule's numbers, at every depth.
use Rattle.std.proofs.Common.{◌≡◌, ℕ, zero, suc, ◌+◌, ◌-◌, ◌<◌, ◌≤◌, Bool, true, false, cond, eqb, List, length, get_or, Some, None, Option, sym, refl, ap, ◌∙◌, arith}
use Rattle.std.proofs.lemmas.Bool.{cond-false}
use Rattle.layout.specs.declared.record.Record.{Record}
use Rattle.layout.specs.declared.data_type.DataType.{DataType}
use Rattle.layout.specs.Nodes.{child, child_count}
use Rattle.layout.specs.Records.{nodes, record_at}
use Rattle.admission.specs.FirstFault.{sound}
use Rattle.admission.proofs.Links.{child_behind}
use Rattle.hash_state.specs.Writes.{Write}
use Rattle.image.specs.Read.{slot_at, slot_within, typed_slot}
use Rattle.image.specs.Slot.{Slot, null}
use Rattle.image.proofs.Levels.{deep_enough}
use Rattle.row_rule.specs.Number.{is_null, number_of}
use Rattle.leaves.specs.Rows.{is_leaf}
use Rattle.columns.specs.Fold.{entry, is_first, is_marked, row_number, through}
use Rattle.columns.specs.Jobs.{Did, Fine, plan, reach_from, region, row_by, standing, type_of}
use Rattle.columns.specs.declared.job.Job.{Job}
use Rattle.columns.specs.Machine.{Fits, complete, turns}
use Rattle.columns.proofs.Meaning.{Reached, did_then, ended_did, leaf_slot, opened_did, row_same, through_start, turns_did}
use Rattle.columns.proofs.Rule.{marked_slot, row_rule, values}
use Rattle.columns.proofs.Typed.{counted, passed, typed}

-- only a node with children has a region
some_children : (k size x : ℕ) → x < cond (eqb k 0) 0 size → 0 < k
some_children zero size x h = absurd (omega arith)
some_children (suc k) size x h = omega arith

module _ (ONE : List Write → ℕ) (SEED : ℕ → List Write → ℕ) (bytes : List ℕ) (is-sound : sound bytes ≡ true) where
  -- the slot of a node by its type
  pub typed_within : (f node row : ℕ) → node < nodes bytes → slot_within (suc f) bytes node row ≡ typed_slot (type_of bytes node) bytes (record_at bytes node) (slot_within f bytes) row
  typed_within f node row there =
      ap (λ (o : Option DataType). elim o as (λ _. Slot) [ None ↦ null | Some t ↦ typed_slot t bytes (record_at bytes node) (slot_within f bytes) row ]) (typed bytes is-sound node there)

  -- a slot, read at one level or more, is null where its row is marked
  mark_of : (f node : ℕ) → node < nodes bytes → 0 < f → (q : ℕ) → is_null (slot_within f bytes node q) ≡ is_marked bytes node q
  mark_of zero node there h q = absurd (omega arith)
  mark_of (suc f) node there h q = marked_slot f bytes node q (type_of bytes node) (typed bytes is-sound node there)

  node_rule : (f node row : ℕ) (first : Bool) (e : ℕ) → node < nodes bytes → (0 < child_count (Some (type_of bytes node)) (record_at bytes node) → 0 < f)
      → row_by ONE SEED bytes (type_of bytes node) (record_at bytes node) (values ONE SEED (type_of bytes node) bytes (record_at bytes node) (slot_within f bytes)) first e row
      ≡ number_of ONE SEED first e (slot_within (suc f) bytes node row)
  node_rule f node row first e there deep = by_leaf (is_leaf t) refl ∙ ap (number_of ONE SEED first e) (sym (typed_within f node row there))
    where
      t : DataType
      t = type_of bytes node

      r : Record
      r = record_at bytes node

      by_leaf : (b : Bool) → is_leaf t ≡ b
          → cond b (number_of ONE SEED first e (typed_slot t bytes r (λ _ _. null) row)) (row_number t bytes r (values ONE SEED t bytes r (slot_within f bytes)) first e row)
          ≡ number_of ONE SEED first e (typed_slot t bytes r (slot_within f bytes) row)
      by_leaf true l = ap (number_of ONE SEED first e) (leaf_slot t bytes r (λ _ _. null) (slot_within f bytes) row l)
      by_leaf false l =
          let p = passed bytes is-sound node there in
          sym (row_rule ONE SEED bytes r (slot_within f bytes) t first e row (counted (length bytes) t r l p.tabled)
          (λ q h. mark_of f (child bytes r 0) (child_behind bytes node r _ p.tabled p.lined 0 h).2 (deep h) q))

  fits_levels : (len f : ℕ) (j : Job) → Fits (plan ONE SEED bytes len) f j → 0 < f
  unfolding Fits
  fits_levels len zero j h = absurd h
  fits_levels len (suc f) j h = omega arith

  module _ (reached : Reached bytes) where
    -- the words of a job that is completed become its rows' numbers
    pub complete_did : (len f : ℕ) (j : Job) (w : List ℕ) → Fits (plan ONE SEED bytes len) f j → length w ≡ len
        → Did j.at j.n (λ i x. number_of ONE SEED j.first x (slot_within f bytes j.node (j.lo + i))) w (complete (plan ONE SEED bytes len) f j 0 w)
    unfolding complete Fits
    complete_did len zero j w h e = absurd h
    complete_did len (suc f) j w h e =
        let P = plan ONE SEED bytes len in
        let t : DataType = type_of bytes j.node in
        let r : Record = record_at bytes j.node in
        let from : ℕ = reach_from t bytes r j.lo in
        let size : ℕ = region t bytes r j.lo j.n in
        let fine : Fine ONE SEED bytes len j = h.0 in
        let room = fine.room in
        let k : child_count (Some t) r - 0 ≡ child_count (Some t) r = omega arith in
        let v : ℕ → ℕ = values ONE SEED t bytes r (slot_within f bytes) in
        let child-did : (s : ℕ) → s < 0 + child_count (Some t) r → (u : List ℕ) → length u ≡ len
        → Did (j.at + j.n) size (λ i x. number_of ONE SEED (is_first s) (entry s x) (slot_within f bytes (child bytes r s) (from + i))) u (complete P f (P.child j s) 0 (P.before j s u)) =
        λ s l u eu.
        let o = opened_did (j.at + j.n) size s u (omega arith) in
        did_then _ _ _ _ u (P.before j s u) _ o (complete_did len f (P.child j s) (P.before j s u) (h.1 s (omega arith)) (o.same ∙ eu)) in
        let w₁ : List ℕ = turns (λ s u. complete P f (P.child j s) 0 (P.before j s u)) (child_count (Some t) r) 0 w in
        let D : Did (j.at + j.n) size (λ i x. through (λ s y. number_of ONE SEED (is_first s) (entry s y) (slot_within f bytes (child bytes r s) (from + i))) (child_count (Some t) r) 0 x) w w₁ =
        turns_did (j.at + j.n) size len _ (λ s i x. number_of ONE SEED (is_first s) (entry s x) (slot_within f bytes (child bytes r s) (from + i))) (child_count (Some t) r) 0 w e child-did in
        let same = D.same in
        let fine₁ : Fine ONE SEED bytes (length w₁) j = record { there = fine.there; rows = fine.rows; room = omega arith } in
        let some : (x : ℕ) → x < size → 0 < child_count (Some t) r = λ x l. some_children (child_count (Some t) r) _ x l in
        let E = ended_did ONE SEED bytes reached j w₁ v fine₁
        (λ x l. D.rows x l ∙ through_start (child_count (Some t) r) (λ s y. number_of ONE SEED (is_first s) y (slot_within f bytes (child bytes r s) (from + x))) _ (some x l)) in
        rw k
        (record {
          same = E.same ∙ D.same;
          below = λ i l. E.below i l ∙ D.below i (omega arith);
          rows = λ i l.
              E.rows i l
              ∙ ap (λ (y : ℕ). row_by ONE SEED bytes t r v j.first y (j.lo + i)) (D.below (j.at + i) (omega arith))
              ∙ node_rule f j.node (j.lo + i) j.first _ fine.there (λ z. fits_levels len f (P.child j 0) (h.1 0 z));
        })

    -- a row of a column by the numbers of its child rows, which stand in a region
    pub column_number : (node lo n row : ℕ) (numbers : List ℕ) (y : ℕ → ℕ) (first : Bool) (e : ℕ) → node < nodes bytes → lo + n ≤ (record_at bytes node).rows → lo ≤ row → row < lo + n
        → is_leaf (type_of bytes node) ≡ false
        → ((x : ℕ) → x < region (type_of bytes node) bytes (record_at bytes node) lo n
        → get_or numbers x 0
        ≡ through (λ s z. number_of ONE SEED (is_first s) (entry s z) (slot_at bytes (child bytes (record_at bytes node) s) (reach_from (type_of bytes node) bytes (record_at bytes node) lo + x))) (child_count (Some (type_of bytes node)) (record_at bytes node)) 0 (y x))
        → row_number (type_of bytes node) bytes (record_at bytes node) (standing numbers (reach_from (type_of bytes node) bytes (record_at bytes node) lo)) first e row
        ≡ number_of ONE SEED first e (slot_at bytes node row)
    column_number node lo n row numbers y first e there rows low high nested holds =
        let t : DataType = type_of bytes node in
        let r : Record = record_at bytes node in
        let from : ℕ = reach_from t bytes r lo in
        let v : ℕ → ℕ = values ONE SEED t bytes r (slot_within 16 bytes) in
        row_same ONE SEED bytes reached node lo n row (standing numbers from) v first e there rows low high
        (λ x l.
        let z : from + x - from ≡ x = omega arith in
        ap (λ (k : ℕ). get_or numbers k 0) z
        ∙ holds x l
        ∙ through_start (child_count (Some t) r) (λ s w. number_of ONE SEED (is_first s) w (slot_within 16 bytes (child bytes r s) (from + x))) (y x) (some_children (child_count (Some t) r) _ x l))
        ∙ sym (cond-false (is_leaf t) _ (row_number t bytes r v first e row) nested)
        ∙ node_rule 16 node row first e there (λ _. omega arith)
        ∙ ap (number_of ONE SEED first e) (deep_enough bytes is-sound node row there 1)
