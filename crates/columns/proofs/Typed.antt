-- A node of a sound image has its type, and as many children as its type says.
use Rattle.std.proofs.Common.{◌≡◌, ℕ, ◌*◌, ◌<◌, true, false, ◌||◌, ltb, List, Some, None, Option, sym, refl, arith}
use Rattle.std.proofs.lemmas.Bool.{ltb-false, or_parts}
use Rattle.layout.specs.declared.record.Record.{Record}
use Rattle.layout.specs.declared.data_type.DataType.{DataType}
use Rattle.layout.specs.declared.data_type.DataType.TheVariants.{Null, Dictionary, Struct, List as ListOf, ListView, Map, FixedSizeList, RunEnd}
use Rattle.layout.specs.declared.data_type.Table.TheVariants.{Children}
use Rattle.layout.specs.Nodes.{table}
use Rattle.layout.specs.Records.{nodes, record_at}
use Rattle.layout.specs.Types.{data_type}
use Rattle.admission.specs.FirstFault.{sound}
use Rattle.admission.specs.Rejections.{bad_table, outside}
use Rattle.admission.proofs.Sound.{Passed, sound_node, sound_read}
use Rattle.leaves.specs.Rows.{is_leaf}
use Rattle.columns.specs.Jobs.{type_of}
use Rattle.columns.proofs.Rule.{Counted}

some_type : (o : Option DataType) (t : DataType) → o ≡ Some t → o ≡ Some (elim o as (λ _. DataType) [ None ↦ Null | Some s ↦ s ])
some_type None t e = let z : ◌≡◌ {A = ℕ} 0 1 = cc in absurd (omega arith)
some_type (Some s) t e = refl

module _ (bytes : List ℕ) (is-sound : sound bytes ≡ true) (node : ℕ) (there : node < nodes bytes) where
  pub typed : data_type (record_at bytes node) ≡ Some (type_of bytes node)
  typed = let found = sound_node bytes is-sound node there in some_type (data_type (record_at bytes node)) found.0 found.1

  pub passed : Passed bytes node (type_of bytes node) (record_at bytes node)
  passed = sound_read bytes is-sound node (record_at bytes node) (type_of bytes node) there refl (sym typed)

-- how many entries a list of children has
pub exactly : (len n : ℕ) (r : Record) → bad_table len (Children n n) r ≡ false → r.cnt ≡ n
exactly len n r e =
    let parts = or_parts (ltb r.cnt n) (ltb n r.cnt || outside len r.tab (4 * r.cnt)) e in
    let more = or_parts (ltb n r.cnt) (outside len r.tab (4 * r.cnt)) parts.1 in
    omega (arith, ltb-false r.cnt n parts.0, ltb-false n r.cnt more.0)

no : {A : Type 0} → true ≡ false → A
no e = let z : ◌≡◌ {A = ℕ} 0 1 = cc in absurd (omega arith)

pub counted : (len : ℕ) (t : DataType) (r : Record) → is_leaf t ≡ false → bad_table len (table t) r ≡ false → Counted t r.cnt
counted len (Dictionary w signed) r l e = exactly len 1 r e
counted len Struct r l e = tt
counted len (ListOf w) r l e = exactly len 1 r e
counted len (ListView w) r l e = exactly len 1 r e
counted len Map r l e = exactly len 2 r e
counted len (FixedSizeList p) r l e = exactly len 1 r e
counted len (RunEnd w) r l e = exactly len 1 r e
counted len t r l e = no l
