use Rattle.std.proofs.Common.{refl, ap₂}
use Rattle.hash_state.specs.Values.{float, seeded_float}
use Rattle.leaves.proofs.Told.{told_float}
use Rattle.leaves.proofs.number.FloatsReader.value.Goals as goal

pub returns : goal.returns
returns g c down =
    let width = g.met.T.Number.same_width in
    let bits = g.met.T.Number.same_number c.load.result in
    rw (← c.load.ensures) (told_float _ _ refl (ap₂ float width bits) (ap₂ seeded_float width bits))
