-- A job fits where the work has room for the need of its node.
use Rattle.std.proofs.Common.{◌≡◌, ℕ, zero, suc, ◌+◌, ◌-◌, ◌<◌, ◌≤◌, true, false, eqb, List, Option, ap, subst, inl, inr, arith, Some}
use Rattle.std.proofs.lemmas.Bool.{cases_eq, cond-true, eq-eqb, true≢false}
use Rattle.layout.specs.declared.record.Record.{Record}
use Rattle.layout.specs.declared.data_type.DataType.{DataType}
use Rattle.layout.specs.Nodes.{child, child_count, child_rows, some_below, table}
use Rattle.layout.specs.Records.{nodes, record_at}
use Rattle.layout.specs.Types.{data_type}
use Rattle.admission.specs.FirstFault.{sound}
use Rattle.admission.specs.Rejections.{higher}
use Rattle.admission.proofs.Below.{none_at}
use Rattle.admission.proofs.Links.{child_behind}
use Rattle.hash_state.specs.Writes.{Write}
use Rattle.columns.specs.Jobs.{child_at, most, need_within, plan, reach_from, reach_till, region, type_of}
use Rattle.columns.specs.declared.job.Job.{Job}
use Rattle.columns.specs.Machine.{Fits}
use Rattle.columns.proofs.Meaning.{Reached}
use Rattle.columns.proofs.Reaching.{reach_inside, uses_reached}
use Rattle.columns.proofs.Typed.{passed, typed}

pub most_at : (f : ℕ → ℕ) (n k : ℕ) → k < n → f k ≤ most f n
most_at f zero k h = absurd (omega arith)
most_at f (suc n) k h = elim (cases_eq k n) [ inl q ↦ rw q (omega arith) | inr q ↦ let before = most_at f n k (omega arith) in omega arith ]

module _ (bytes : List ℕ) (is-sound : sound bytes ≡ true) where
  pub reached : Reached bytes
  reached node lo n row there rows low high m = uses_reached bytes node (record_at bytes node) lo n row rows low high (type_of bytes node) (passed bytes is-sound node there) m

  -- how many children the definitions of height and need count
  pub counts : (node : ℕ) → node < nodes bytes → child_count (data_type (record_at bytes node)) (record_at bytes node) ≡ child_count (Some (type_of bytes node)) (record_at bytes node)
  counts node there = ap (λ (o : Option DataType). child_count o (record_at bytes node)) (typed bytes is-sound node there)

  pub need_at : (f node s : ℕ) → node < nodes bytes → s < child_count (Some (type_of bytes node)) (record_at bytes node)
      → child_rows bytes (record_at bytes node) s + need_within f bytes (child bytes (record_at bytes node) s) ≤ need_within (suc f) bytes node
  need_at f node s there h =
      most_at (λ k. child_rows bytes (record_at bytes node) k + need_within f bytes (child bytes (record_at bytes node) k)) (child_count (data_type (record_at bytes node)) (record_at bytes node)) s
      (omega (arith, counts node there))

  module _ (ONE : List Write → ℕ) (SEED : ℕ → List Write → ℕ) (len : ℕ) where
    pub fits : (f : ℕ) (j : Job) → higher bytes f j.node ≡ false → j.node < nodes bytes → j.lo + j.n ≤ (record_at bytes j.node).rows
        → j.at + j.n + need_within f bytes j.node ≤ len → Fits (plan ONE SEED bytes len) f j
    unfolding Fits
    fits zero j low there rows room = absurd (true≢false low)
    fits (suc f) j low there rows room =
        let t : DataType = type_of bytes j.node in
        let r : Record = record_at bytes j.node in
        let p = passed bytes is-sound j.node there in
        let lower : some_below (child_count (Some t) r) (λ k. higher bytes f (child bytes r k)) ≡ false =
        subst (λ (m : ℕ). some_below m (λ k. higher bytes f (child bytes r k)) ≡ false) (counts j.node there) low in
        let small : (s : ℕ) → s < child_count (Some t) r → region t bytes r j.lo j.n + need_within f bytes (child bytes r s) ≤ need_within (suc f) bytes j.node =
        λ s h. omega (arith, reach_inside bytes j.node r j.lo j.n rows t p s h, need_at f j.node s there h) in
        let fitting : region t bytes r j.lo j.n ≤ need_within (suc f) bytes j.node =
        elim (cases_eq (child_count (Some t) r) 0) [
          | inl q ↦ omega (arith, cond-true (eqb (child_count (Some t) r) 0) 0 (reach_till t bytes r j.lo j.n - reach_from t bytes r j.lo) (eq-eqb (child_count (Some t) r) 0 q))
          | inr q ↦ omega (arith, small 0 (omega arith))
        ] in (
          record { there = there; rows = rows; room = omega arith },
          λ s h.
              let behind = child_behind bytes j.node r (table t) p.tabled p.lined s h in
              fits f (child_at bytes t r j s) (none_at (child_count (Some t) r) (λ k. higher bytes f (child bytes r k)) s lower h) behind.2
              (reach_inside bytes j.node r j.lo j.n rows t p s h) (omega (arith, small s h)),
        )
