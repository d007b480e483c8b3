-- What an answer about an admitted image says of the bytes that it was admitted from.
use Rattle.std.proofs.Common.{◌≡◌, ℕ, ◌<◌, ◌≤◌, Bool, true, false, ◌&&◌, leb, ltb, List, length, Some, None, ap, ◌∙◌, sym}
use Rattle.std.proofs.lemmas.Bool.{and_parts, cond-false, cond-true, leb-true, ltb-true}
use Rattle.layout.specs.Records.{nodes, record_at}
use Rattle.admission.specs.FirstFault.{first_fault}
use Rattle.hash_state.specs.Writes.{Write}
use Rattle.columns.specs.Column.{column_words}
use Rattle.columns.specs.Jobs.{need}
use Rattle.bench_columns.specs.Times.{can_hash, fits, repeated, timed_words}
use Rattle.bench_columns.specs.declared.Timed.{Timed}

-- a node that fits is there, with no more rows than entries and no more need than work
pub enough : (bytes : List ℕ) (node entries work : ℕ) → fits bytes node entries work ≡ true → (node < nodes bytes) × ((record_at bytes node).rows ≤ entries) × (need bytes node ≤ work)
enough bytes node entries work e =
    let parts = and_parts (ltb node (nodes bytes)) (leb (record_at bytes node).rows entries && leb (need bytes node) work) e in
    let more = and_parts (leb (record_at bytes node).rows entries) (leb (need bytes node) work) parts.1 in
    (ltb-true node (nodes bytes) parts.0, leb-true (record_at bytes node).rows entries more.0, leb-true (need bytes node) work more.1)

module _ (bytes image : List ℕ) (t : Timed) (admitted : None ≡ first_fault bytes) (same : image ≡ bytes) where
  pub can : (entries work : ℕ) (answer : Bool) → answer ≡ fits image t.node entries work → answer ≡ can_hash bytes t.node entries work
  can entries work answer told =
      told
      ∙ ap (λ (b : List ℕ). fits b t.node entries work) same
      ∙ ap (λ o. elim o as (λ _. Bool) [ None ↦ fits bytes t.node entries work | Some _ ↦ false ]) admitted

  module _ (ONE : List Write → ℕ) (SEED : ℕ → List Write → ℕ) (work : ℕ) (entries : List ℕ) where
    pub kept : false ≡ fits image t.node (length entries) work → entries ≡ timed_words ONE SEED bytes t entries work
    kept told = sym (cond-false (can_hash bytes t.node (length entries) work) _ entries (sym (can (length entries) work false told)))

    pub hashed : true ≡ fits image t.node (length entries) work
        → repeated t.times (column_words ONE SEED image t.node None t.first) entries ≡ timed_words ONE SEED bytes t entries work
    hashed told =
        ap (λ (b : List ℕ). repeated t.times (column_words ONE SEED b t.node None t.first) entries) same
        ∙ sym (cond-true (can_hash bytes t.node (length entries) work) _ entries (sym (can (length entries) work true told)))
