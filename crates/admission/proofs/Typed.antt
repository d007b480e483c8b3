-- The fault of a node, check by check, and its height.
use Rattle.std.proofs.Common.{◌≡◌, ℕ, zero, suc, ◌+◌, ◌*◌, ◌<◌, ◌≤◌, max, true, false, cond, ◌||◌, ltb, List, length, get_or, Some, None, Option, sym, ap, ◌∙◌, ap₂, arith}
use Rattle.std.proofs.lemmas.Bool.{cond-true, cond-false, le-ltb, lt-ltb}
use Rattle.std.proofs.lemmas.Bool.Decides.{nat_tests}
use Rattle.layout.specs.declared.record.Record.{Record}
use Rattle.layout.specs.declared.data_type.DataType.{DataType}
use Rattle.layout.specs.Nodes.{child, child_count, listed, some_below, table}
use Rattle.layout.specs.Records.{nodes, record_at}
use Rattle.layout.specs.Types.{data_type}
use Rattle.admission.specs.FirstFault.{buffer_fault, node_fault, typed_fault}
use Rattle.admission.specs.Rejections.{bad_child, bad_table, higher, too_high, too_long}
use Rattle.admission.specs.Seams.{Headed, HeightOf, Heights, Linked, highest}
use Rattle.admission.proofs.Links.{child_behind, linked}

or_max : (h a b : ℕ) → (ltb h a || ltb h b) ≡ ltb h (max b a)
or_max h a b = grind (arith, nat_tests)

-- some child is higher than h just where the highest is
higher_highest : (bytes heights : List ℕ) (r : Record) (h n : ℕ) → ((k : ℕ) → k < n → HeightOf bytes (child bytes r k) (get_or heights (child bytes r k) 0))
    → some_below n (λ k. higher bytes h (child bytes r k)) ≡ ltb h (highest bytes heights r n)
higher_highest bytes heights r h zero each = sym (le-ltb h 0 (omega arith))
higher_highest bytes heights r h (suc n) each =
    ap₂ ◌||◌ (each n (omega arith) h) (higher_highest bytes heights r h n (λ k l. each k (omega arith)))
    ∙ or_max h (get_or heights (child bytes r n) 0) (highest bytes heights r n)

above_zero : (x : ℕ) → true ≡ ltb 0 (x + 1)
above_zero x = grind (arith, nat_tests)

one_more : (h x : ℕ) → ltb h x ≡ ltb (suc h) (x + 1)
one_more h x = grind (arith, nat_tests)

-- a node that has passed 2 to 5: its record, its type, and how many children it has
pub record Placed (bytes : List ℕ) (node : ℕ) (r : Record) (t : DataType) (n : ℕ) : Type 0 where
  pub read : r ≡ record_at bytes node
  pub typed : Some t ≡ data_type r
  pub short : too_long r ≡ false
  pub tabled : bad_table (length bytes) (table t) r ≡ false
  pub lined : bad_child bytes node (table t) r ≡ false
  pub counted : listed (table t) r.cnt ≡ n

-- what follows from how high its highest child is: its height, and its fault so far
pub record Settled (bytes : List ℕ) (node : ℕ) (r : Record) (t : DataType) (below : ℕ) : Type 0 where
  pub height : HeightOf bytes node (below + 1)
  pub high : 16 ≤ below → node_fault bytes node ≡ Some 6
  pub low : below < 16 → node_fault bytes node ≡ buffer_fault bytes t r

module _ {bytes : List ℕ} {node : ℕ} {r : Record} {t : DataType} {n : ℕ} (p : Placed bytes node r t n) where
  pub children_behind : (k : ℕ) → k < n → (r.tab + 4 * k + 4 ≤ length bytes) × (node < child bytes r k) × (child bytes r k < nodes bytes)
  children_behind k h = child_behind bytes node r (table t) p.tabled p.lined k (omega (arith, p.counted))

  pub placed_linked : Headed bytes → Linked bytes t r
  placed_linked headed = linked bytes node r headed t p.tabled p.lined

  -- the number of children is what the type and the record say
  counted : child_count (data_type r) r ≡ n
  counted = ap (λ (o : Option DataType). child_count o r) (sym p.typed) ∙ p.counted

  node_typed : node_fault bytes node ≡ typed_fault bytes node t r
  node_typed =
      ap (λ (x : Record). elim (data_type x) as (λ _. Option ℕ) [ None ↦ Some 2 | Some t ↦ typed_fault bytes node t x ]) (sym p.read)
      ∙ ap (λ (o : Option DataType). elim o as (λ _. Option ℕ) [ None ↦ Some 2 | Some t ↦ typed_fault bytes node t r ]) (sym p.typed)

  to_height : node_fault bytes node ≡ cond (too_high bytes node) (Some 6) (buffer_fault bytes t r)
  to_height =
      node_typed
      ∙ cond-false (too_long r) _ _ p.short
      ∙ cond-false (bad_table (length bytes) (table t) r) _ _ p.tabled
      ∙ cond-false (bad_child bytes node (table t) r) _ _ p.lined

  module _ (heights : List ℕ) (right : Heights bytes (node + 1) heights) (below : ℕ) (below-is : below ≡ highest bytes heights r n) where
    -- the height is one more than that of the highest child
    height_of : HeightOf bytes node (below + 1)
    height_of zero = above_zero below
    height_of (suc h) =
        ap (λ (x : Record). some_below (child_count (data_type x) x) (λ k. higher bytes h (child bytes x k))) (sym p.read)
        ∙ ap (λ (m : ℕ). some_below m (λ k. higher bytes h (child bytes r k))) counted
        ∙ higher_highest bytes heights r h n (λ k l. let there = children_behind k l in right (child bytes r k) (omega (arith, there.1)) there.2)
        ∙ ap (ltb h) (sym below-is)
        ∙ one_more h below

    pub placed_height : Settled bytes node r t below
    placed_height =
        record {
          height = height_of;
          high = λ h. to_height ∙ cond-true (too_high bytes node) _ _ (height_of 16 ∙ lt-ltb 16 (below + 1) (omega arith));
          low = λ h. to_height ∙ cond-false (too_high bytes node) _ _ (height_of 16 ∙ le-ltb 16 (below + 1) (omega arith));
        }
