-- What is handed out of a row, by the record and the type that were read.
use Rattle.std.proofs.Common.{◌≡◌, ℕ, List, Some, None, Option, sym, ap, ◌∙◌}
use Rattle.layout.specs.declared.record.Record.{Record}
use Rattle.layout.specs.declared.data_type.DataType.{DataType}
use Rattle.layout.specs.Records.{record_at}
use Rattle.layout.specs.Types.{data_type}
use Rattle.image.specs.Read.{slot_within, typed_slot}
use Rattle.image.specs.Slot.{Slot, null}
use Rattle.image.specs.Values.{Value, bytes_place, handed_out, null_mark, value_at}

module _ (bytes : List ℕ) (node row : ℕ) where
  abbrev by_type : Record → Option DataType → Value
  by_type x None = null_mark
  by_type x (Some t) = handed_out x.kind (bytes_place t bytes x row) (typed_slot t bytes x (slot_within 15 bytes) row)

  by_type_is : (x : Record) (o : Option DataType)
      → (elim o as (λ _. Value) [ None ↦ null_mark | Some t ↦ handed_out x.kind (bytes_place t bytes x row) (elim o as (λ _. Slot) [ None ↦ null | Some s ↦ typed_slot s bytes x (slot_within 15 bytes) row ]) ])
      ≡ by_type x o
  by_type_is x None = mathlib.Core.Path.refl
  by_type_is x (Some t) = mathlib.Core.Path.refl

  pub value_typed : (r : Record) (t : DataType) → r ≡ record_at bytes node → Some t ≡ data_type r
      → value_at bytes node row ≡ handed_out r.kind (bytes_place t bytes r row) (typed_slot t bytes r (slot_within 15 bytes) row)
  value_typed r t read typed =
      by_type_is (record_at bytes node) (data_type (record_at bytes node))
      ∙ ap (λ (x : Record). by_type x (data_type x)) (sym read)
      ∙ ap (by_type r) (sym typed)
