-- A node that was found, and the numbers of its children.
use Rattle.std.proofs.Common.{◌≡◌, ℕ, ◌+◌, ◌*◌, ◌<◌, ◌≤◌, Bool, true, false, cond, ltb, List, length, Some, None, Option, sym, refl, arith}
use Rattle.std.proofs.lemmas.Bool.{ltb-true}
use Rattle.layout.specs.declared.record.Record.{Record}
use Rattle.layout.specs.declared.data_type.DataType.{DataType}
use Rattle.layout.specs.Nodes.{child_count, table}
use Rattle.layout.specs.Records.{nodes, record_at}
use Rattle.layout.specs.Types.{data_type}
use Rattle.admission.specs.FirstFault.{sound}
use Rattle.admission.proofs.Links.{child_behind}
use Rattle.admission.proofs.Sound.{sound_read}
use Rattle.image.specs.Values.{node_record}

some_there : (b : Bool) (x r : Record) → Some r ≡ cond b (Some x) None → (b ≡ true) × (r ≡ x)
some_there true x r e = (refl, cc)
some_there false x r e = let z : ◌≡◌ {A = ℕ} 0 1 = cc in absurd (omega arith)

module _ (bytes : List ℕ) (node : ℕ) (r : Record) (found : Some r ≡ node_record bytes node) where
  pub node_there : node < nodes bytes
  node_there = ltb-true node (nodes bytes) (some_there (ltb node (nodes bytes)) (record_at bytes node) r found).0

  pub record_read : r ≡ record_at bytes node
  record_read = (some_there (ltb node (nodes bytes)) (record_at bytes node) r found).1

  -- the number of a child can be read
  pub child_readable : sound bytes ≡ true → (index : ℕ) → index < child_count (data_type r) r → r.tab + 4 * index + 4 ≤ length bytes
  child_readable is-sound index h = by_type (data_type r) refl h
    where
      by_type : (o : Option DataType) → data_type r ≡ o → index < child_count o r → r.tab + 4 * index + 4 ≤ length bytes
      by_type None e h = absurd (omega arith)
      by_type (Some t) e h =
          let passed = sound_read bytes is-sound node r t node_there record_read (sym e) in
          (child_behind bytes node r (table t) passed.tabled passed.lined index h).0
