-- The need of a node does not depend on how many levels it is told by, and is small.
use Rattle.std.proofs.Common.{◌≡◌, ℕ, zero, suc, ◌+◌, ◌-◌, ◌*◌, ◌<◌, ◌≤◌, max, true, false, eqb, List, get_or, sym, refl, ap, ◌∙◌, ap₂, inl, inr, arith, Some}
use Rattle.std.proofs.lemmas.Bool.{cases_eq, cond-true, eq-eqb, true≢false}
use Rattle.layout.specs.declared.data_type.DataType.{DataType}
use Rattle.layout.specs.declared.record.Record.{Record}
use Rattle.layout.specs.Nodes.{child, child_count, child_rows, table}
use Rattle.layout.specs.Records.{nodes, record_at}
use Rattle.layout.specs.Types.{data_type}
use Rattle.admission.specs.FirstFault.{sound}
use Rattle.admission.specs.Rejections.{higher}
use Rattle.admission.proofs.Below.{none_at}
use Rattle.admission.proofs.Links.{child_behind}
use Rattle.columns.specs.Jobs.{most, need, need_within, needs_of, reach_from, reach_till, region, type_of}
use Rattle.columns.proofs.Fitting.{counts, need_at}
use Rattle.columns.proofs.Ranges.{short}
use Rattle.columns.proofs.Reaching.{reach_inside}
use Rattle.columns.proofs.Typed.{passed}

most_same : (f g : ℕ → ℕ) (n : ℕ) → ((k : ℕ) → k < n → f k ≡ g k) → most f n ≡ most g n
most_same f g zero same = refl
most_same f g (suc n) same = ap₂ max (most_same f g n (λ k l. same k (omega arith))) (same n (omega arith))

most_bound : (f : ℕ → ℕ) (n limit : ℕ) → ((k : ℕ) → k < n → f k ≤ limit) → most f n ≤ limit
most_bound f zero limit each = omega arith
most_bound f (suc n) limit each = omega (arith, most_bound f n limit (λ k l. each k (omega arith)), each n (omega arith))

module _ (bytes : List ℕ) (is-sound : sound bytes ≡ true) where
  -- a child is there, and lower
  child_lower : (h node k : ℕ) → higher bytes (suc h) node ≡ false → node < nodes bytes → k < child_count (data_type (record_at bytes node)) (record_at bytes node)
      → (child bytes (record_at bytes node) k < nodes bytes) × (higher bytes h (child bytes (record_at bytes node) k) ≡ false)
  child_lower h node k low there l =
      let p = passed bytes is-sound node there in
      let few = counts bytes is-sound node there in (
        (child_behind bytes node (record_at bytes node) (table (type_of bytes node)) p.tabled p.lined k (omega (arith, few))).2,
        none_at (child_count (data_type (record_at bytes node)) (record_at bytes node)) (λ k. higher bytes h (child bytes (record_at bytes node) k)) k low l,
      )

  -- a need is the same by any number of levels that is not below the node's height
  pub need_same : (h f g node : ℕ) → higher bytes h node ≡ false → node < nodes bytes → h ≤ f → h ≤ g → need_within f bytes node ≡ need_within g bytes node
  need_same zero f g node low there p q = absurd (true≢false low)
  need_same (suc h) zero g node low there p q = absurd (omega arith)
  need_same (suc h) (suc f) zero node low there p q = absurd (omega arith)
  need_same (suc h) (suc f) (suc g) node low there p q =
      most_same _ _ (child_count (data_type (record_at bytes node)) (record_at bytes node))
      (λ k l.
      let down = child_lower h node k low there l in
      ap (λ (x : ℕ). child_rows bytes (record_at bytes node) k + x) (need_same h f g (child bytes (record_at bytes node) k) down.1 down.0 (omega arith) (omega arith)))

  need_bound : (f node : ℕ) → node < nodes bytes → higher bytes f node ≡ false → need_within f bytes node ≤ f * 1048576
  need_bound zero node there low = absurd (true≢false low)
  need_bound (suc f) node there low =
      most_bound _ (child_count (data_type (record_at bytes node)) (record_at bytes node)) (suc f * 1048576)
      (λ k l.
      let down = child_lower f node k low there l in
      let few = short (record_at bytes (child bytes (record_at bytes node) k)) (passed bytes is-sound (child bytes (record_at bytes node) k) down.0).short in
      omega (arith, few.0, need_bound f (child bytes (record_at bytes node) k) down.0 down.1))

  -- no need is above 16 levels of 1,048,576 rows each
  pub need_small : (node : ℕ) → node < nodes bytes → need bytes node ≤ 16777216
  need_small node there = omega (arith, need_bound 16 node there (passed bytes is-sound node there).low)

  -- the need of a node, from a table that has those of its children
  pub need_by : (node : ℕ) (needs : List ℕ) → node < nodes bytes
      → ((k : ℕ) → k < child_count (Some (type_of bytes node)) (record_at bytes node) → get_or needs (child bytes (record_at bytes node) k) 0 ≡ need bytes (child bytes (record_at bytes node) k))
      → most (needs_of bytes (record_at bytes node) needs) (child_count (Some (type_of bytes node)) (record_at bytes node)) ≡ need bytes node
  need_by node needs there each =
      let low = (passed bytes is-sound node there).low in
      let few = counts bytes is-sound node there in
      ap (most (needs_of bytes (record_at bytes node) needs)) (sym few)
      ∙ most_same _ _ (child_count (data_type (record_at bytes node)) (record_at bytes node))
      (λ k l.
      let down = child_lower 15 node k low there l in
      ap (λ (x : ℕ). child_rows bytes (record_at bytes node) k + x)
      (each k (omega (arith, few)) ∙ need_same 15 16 15 (child bytes (record_at bytes node) k) down.1 down.0 (omega arith) (omega arith)))

  -- a region and the need of a child are together within the node's need
  pub region_need : (node lo n s : ℕ) → node < nodes bytes → lo + n ≤ (record_at bytes node).rows → s < child_count (Some (type_of bytes node)) (record_at bytes node)
      → region (type_of bytes node) bytes (record_at bytes node) lo n + need bytes (child bytes (record_at bytes node) s) ≤ need bytes node
  region_need node lo n s there rows h =
      let p = passed bytes is-sound node there in
      let down = child_lower 15 node s p.low there (omega (arith, counts bytes is-sound node there)) in
      omega (
        arith,
        reach_inside bytes node (record_at bytes node) lo n rows (type_of bytes node) p s h,
        need_at bytes is-sound 15 node s there h,
        need_same 15 16 15 (child bytes (record_at bytes node) s) down.1 down.0 (omega arith) (omega arith),
      )

  -- a region alone is within the node's need
  pub region_inside : (node lo n : ℕ) → node < nodes bytes → lo + n ≤ (record_at bytes node).rows → region (type_of bytes node) bytes (record_at bytes node) lo n ≤ need bytes node
  region_inside node lo n there rows =
      let t : DataType = type_of bytes node in
      let r : Record = record_at bytes node in
      elim (cases_eq (child_count (Some t) r) 0) [
        | inl q ↦ omega (arith, cond-true (eqb (child_count (Some t) r) 0) 0 (reach_till t bytes r lo n - reach_from t bytes r lo) (eq-eqb (child_count (Some t) r) 0 q))
        | inr q ↦ omega (arith, region_need node lo n 0 there rows (omega arith))
      ]
