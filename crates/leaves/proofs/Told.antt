-- What a value tells, by the kind of its slot.
use Rattle.std.proofs.Common.{◌≡◌, ℕ, ◌+◌, Bool, true, false, ◌&&◌, List, sym, refl, ◌∙◌}
use Rattle.layout.specs.declared.record.Record.{Record}
use Rattle.layout.specs.declared.data_type.DataType.{DataType}
use Rattle.layout.specs.Nodes.{marked, reads_nulls}
use Rattle.hash_state.specs.Values as tell
use Rattle.hash_state.specs.Writes.{Write}
use Rattle.image.specs.Read.{typed_slot, unmarked}
use Rattle.image.specs.Slot.{Slot, null, nothing, boolean, number, float, text, binary, view}
use Rattle.row_rule.specs.Number.{number_of, view_writes}
use Rattle.leaves.specs.Tells.{Tells}

pub told_nothing : Tells false tell.nothing tell.nothing nothing
unfolding number_of
told_nothing = record { when_first = λ _ _ _. refl; when_later = λ _ _ _. refl }

module _ (b : Bool) where
  pub told_boolean : (x : Bool) → x ≡ b → Tells false (tell.boolean x) (tell.boolean x) (boolean b)
  unfolding number_of
  told_boolean x q = rw q (record { when_first = λ _ _ _. refl; when_later = λ _ _ _. refl })

module _ (w n : ℕ) where
  module _ {seeding : Bool} {writes seeds : List Write} (seeded : seeding ≡ true) where
    pub told_number : writes ≡ tell.number w n → seeds ≡ tell.number w n → Tells seeding writes seeds (number w n)
    unfolding number_of
    told_number p q = rw (seeded, p, q) (record { when_first = λ _ _ _. refl; when_later = λ _ _ _. refl })

    pub told_float : writes ≡ tell.float w n → seeds ≡ tell.seeded_float w n → Tells seeding writes seeds (float w n)
    unfolding number_of
    told_float p q = rw (seeded, p, q) (record { when_first = λ _ _ _. refl; when_later = λ _ _ _. refl })

module _ (bytes : List ℕ) where
  pub told_text : (x : List ℕ) → x ≡ bytes → Tells false (tell.text x) (tell.text x) (text bytes)
  unfolding number_of
  told_text x q = rw q (record { when_first = λ _ _ _. refl; when_later = λ _ _ _. refl })

  pub told_binary : (x : List ℕ) → x ≡ bytes → Tells false (tell.binary x) (tell.binary x) (binary bytes)
  unfolding number_of
  told_binary x q = rw q (record { when_first = λ _ _ _. refl; when_later = λ _ _ _. refl })

  pub told_view : (ws : List Write) → ws ≡ view_writes bytes → Tells true ws ws (view bytes)
  unfolding number_of
  told_view ws q = rw q (record { when_first = λ _ _ _. refl; when_later = λ _ _ _. refl })

-- the slot of a row, by whether it is null
module _ (bytes : List ℕ) (r : Record) (t : DataType) (down : ℕ → ℕ → Slot) {row met : ℕ} {is_null : Bool} (at : row ≡ met) (q : is_null ≡ (reads_nulls t && marked bytes r row)) where
  pub null_slot : is_null ≡ true → typed_slot t bytes r down met ≡ null
  null_slot p = rw (← at, sym q ∙ p) refl

  pub told_unmarked : {u : DataType} {seeding : Bool} {writes seeds : List Write} → is_null ≡ false → u ≡ t
      → Tells seeding writes seeds (unmarked u bytes r down row (r.start + row)) → Tells seeding writes seeds (typed_slot t bytes r down met)
  told_unmarked p typed told = rw (← at, sym q ∙ p, ← typed) told
