-- A column's children, one after the other over one region.
use Rattle.std.proofs.Common.{◌≡◌, ℕ, zero, suc, ◌+◌, ◌<◌, ◌≤◌, Bool, true, false, cond, List, length, get_or, sym, refl, ap, ◌∙◌, add-one, arith, Some}
use Rattle.layout.specs.Nodes.{child, child_count}
use Rattle.layout.specs.Records.{nodes, record_at}
use Rattle.admission.specs.FirstFault.{sound}
use Rattle.hash_state.specs.Writes.{Write}
use Rattle.image.specs.Read.{slot_at, slot_within, typed_slot}
use Rattle.image.specs.Slot.{null}
use Rattle.row_rule.specs.Number.{number_of}
use Rattle.leaves.specs.Rows.{is_leaf}
use Rattle.columns.specs.Fold.{entry, is_first, row_number, through}
use Rattle.columns.specs.Jobs.{Did, need, opened, plan, reach_from, region, row_by, standing}
use Rattle.columns.specs.Machine.{Fits, complete}
use Rattle.columns.specs.declared.job.Job.{Job}
use Rattle.columns.specs.declared.node.Node.{Node}
use Rattle.columns.proofs.Fitting.{fits, reached}
use Rattle.columns.proofs.Meaning.{did_then, leaf_slot, opened_did}
use Rattle.columns.proofs.Nodes.{at_node, image_of, of_node}
use Rattle.columns.proofs.Numbers.{column_number, complete_did, typed_within}
use Rattle.columns.proofs.Typed.{passed}

-- the job of a child's rows, over the words at a place
abbrev pub job_of : ℕ → ℕ → ℕ → ℕ → Bool → Job
job_of node lo n at first = record { node = node; lo = lo; n = n; at = at; first = first }

module _ (ONE : List Write → ℕ) (SEED : ℕ → List Write → ℕ) (bytes : List ℕ) (is-sound : sound bytes ≡ true) (node lo n at : ℕ) (there : node < nodes bytes) (rows : lo + n ≤ (record_at bytes node).rows) where
  pub child_fits : (len : ℕ) (first : Bool) → at + n + need bytes node ≤ len → Fits (plan ONE SEED bytes len) 16 (job_of node lo n at first)
  child_fits len first room = fits bytes is-sound ONE SEED len 16 (job_of node lo n at first) (passed bytes is-sound node there).low there rows room

  -- child s, over a region that is cleared before child 0
  pub child_did : (s : ℕ) (w : List ℕ) → at + n + need bytes node ≤ length w
      → Did at n (λ i x. number_of ONE SEED (is_first s) (entry s x) (slot_at bytes node (lo + i))) w (complete (plan ONE SEED bytes (length (opened at n s w))) 16 (job_of node lo n at (is_first s)) 0 (opened at n s w))
  child_did s w room =
      let cleared = opened_did at n s w (omega arith) in
      did_then at n _ _ w (opened at n s w) _ cleared
      (complete_did ONE SEED bytes is-sound (reached bytes is-sound) (length (opened at n s w)) 16 (job_of node lo n at (is_first s)) (opened at n s w)
      (child_fits (length (opened at n s w)) (is_first s) (omega (arith, cleared.same))) refl)

-- one child more
through_last : (g : ℕ → ℕ → ℕ) (m s x : ℕ) → through g (suc m) s x ≡ g (s + m) (through g m s x)
unfolding through
through_last g zero s x = let z : s ≡ s + 0 = omega arith in ap (λ (k : ℕ). g k x) z
through_last g (suc m) s x = through_last g m (s + 1) (g s x) ∙ ap (λ (k : ℕ). g k (through g m (s + 1) (g s x))) (omega arith)

through_more : (g : ℕ → ℕ → ℕ) (m x : ℕ) → through g (m + 1) 0 x ≡ g m (through g m 0 x)
through_more g m x = let z : 0 + m ≡ m = omega arith in rw add-one (through_last g m 0 x ∙ ap (λ (k : ℕ). g k (through g m 0 x)) z)

pub children_none : (at n : ℕ) (G : ℕ → ℕ → ℕ → ℕ) (w : List ℕ) → Did at n (λ i x. through (λ s y. G s i y) 0 0 x) w w
unfolding through
children_none at n G w = record { same = refl; below = λ j l. refl; rows = λ i l. refl }

pub children_more : (at n m : ℕ) (G : ℕ → ℕ → ℕ → ℕ) (w w' w'' : List ℕ) → Did at n (λ i x. through (λ s y. G s i y) m 0 x) w w' → Did at n (G m) w' w''
    → Did at n (λ i x. through (λ s y. G s i y) (m + 1) 0 x) w w''
children_more at n m G w w' w'' p q =
    let both = did_then at n _ (G m) w w' w'' p q in
    record {
      same = both.same;
      below = both.below;
      rows = λ i l. both.rows i l ∙ sym (through_more (λ s y. G s i y) m (get_or w (at + i) 0));
    }

-- a row of a column, by the numbers that its children left in a region
module _ (ONE : List Write → ℕ) (SEED : ℕ → List Write → ℕ) (n : Node) where
  leaf_number : (row : ℕ) (first : Bool) (e : ℕ) → is_leaf n.t ≡ true
      → number_of ONE SEED first e (typed_slot n.t (image_of n) n.column.record (λ _ _. null) row) ≡ number_of ONE SEED first e (slot_at (image_of n) n.number row)
  leaf_number row first e leaf =
      ap (number_of ONE SEED first e)
      (leaf_slot n.t (image_of n) n.column.record (λ _ _. null) (slot_within 15 (image_of n)) row leaf
      ∙ at_node (λ b t r. typed_slot t (image_of n) r (slot_within 15 (image_of n)) row) n (image_of n) n.number refl refl
      ∙ sym (typed_within ONE SEED (image_of n) n.sound 15 n.number row n.there))

  nested_number : (lo count row : ℕ) (numbers : List ℕ) (y : ℕ → ℕ) (first : Bool) (e : ℕ)
      → lo + count ≤ n.column.record.rows → lo ≤ row → row < lo + count → is_leaf n.t ≡ false
      → ((x : ℕ) → x < region n.t (image_of n) n.column.record lo count
      → get_or numbers x 0 ≡ through (λ s z. number_of ONE SEED (is_first s) (entry s z) (slot_at (image_of n) (child (image_of n) n.column.record s) (reach_from n.t (image_of n) n.column.record lo + x))) (child_count (Some n.t) n.column.record) 0 (y x))
      → row_number n.t (image_of n) n.column.record (standing numbers (reach_from n.t (image_of n) n.column.record lo)) first e row ≡ number_of ONE SEED first e (slot_at (image_of n) n.number row)
  nested_number lo count row numbers y first e =
      of_node (λ b t r. lo + count ≤ r.rows → lo ≤ row → row < lo + count → is_leaf t ≡ false
      → ((x : ℕ) → x < region t b r lo count → get_or numbers x 0 ≡ through (λ s z. number_of ONE SEED (is_first s) (entry s z) (slot_at b (child b r s) (reach_from t b r lo + x))) (child_count (Some t) r) 0 (y x))
      → row_number t b r (standing numbers (reach_from t b r lo)) first e row ≡ number_of ONE SEED first e (slot_at b n.number row))
      n (image_of n) n.number refl refl
      (column_number ONE SEED (image_of n) n.sound (reached (image_of n) n.sound) n.number lo count row numbers y first e n.there)

  pub node_number : (lo count row : ℕ) (numbers : List ℕ) (y : ℕ → ℕ) (first : Bool) (e : ℕ)
      → lo + count ≤ n.column.record.rows → lo ≤ row → row < lo + count
      → ((x : ℕ) → x < region n.t (image_of n) n.column.record lo count
      → get_or numbers x 0 ≡ through (λ s z. number_of ONE SEED (is_first s) (entry s z) (slot_at (image_of n) (child (image_of n) n.column.record s) (reach_from n.t (image_of n) n.column.record lo + x))) (child_count (Some n.t) n.column.record) 0 (y x))
      → row_by ONE SEED (image_of n) n.t n.column.record (standing numbers (reach_from n.t (image_of n) n.column.record lo)) first e row ≡ number_of ONE SEED first e (slot_at (image_of n) n.number row)
  node_number lo count row numbers y first e rows low high holds = by_leaf (is_leaf n.t) refl
    where
      by_leaf : (b : Bool) → is_leaf n.t ≡ b
          → cond b (number_of ONE SEED first e (typed_slot n.t (image_of n) n.column.record (λ _ _. null) row))
          (row_number n.t (image_of n) n.column.record (standing numbers (reach_from n.t (image_of n) n.column.record lo)) first e row)
          ≡ number_of ONE SEED first e (slot_at (image_of n) n.number row)
      by_leaf true leaf = leaf_number row first e leaf
      by_leaf false nested = nested_number lo count row numbers y first e rows low high nested holds
