use Rattle.std.proofs.Common.{◌≡◌, Bool, true, false, refl}
use Rattle.image.specs.Slot.{Slot}
use Rattle.row_rule.specs.Laws.{StaysApart, combines}
use Rattle.tables.specs.Rules.{ApartFirst, ApartLater, KeepsApart}
use Rattle.tables.proofs.rules.slots_keep_apart.Goals as goal

keeps : StaysApart → (first : Bool) (s : Slot) → combines first s ≡ true → KeepsApart first s
keeps law first s c ONE SEED a b ha hb = law ONE SEED first s a b ha hb c

first : ApartFirst
first law = (keeps law true _ refl, keeps law true _ refl, keeps law true _ refl, keeps law true _ refl, keeps law true _ refl)

later : ApartLater
later law = (
  keeps law false _ refl,
  keeps law false _ refl,
  keeps law false _ refl,
  keeps law false _ refl,
  keeps law false _ refl,
  keeps law false _ refl,
  keeps law false _ refl,
  keeps law false _ refl,
  keeps law false _ refl,
)

pub returns-clause-first : goal.returns-clause-first
returns-clause-first c = first

pub returns-clause-later : goal.returns-clause-later
returns-clause-later c = later
