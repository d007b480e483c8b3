use Rattle.std.proofs.Common.{refl, ap₂}
use Rattle.hash_state.specs.Values.{number}
use Rattle.leaves.proofs.Told.{told_number}
use Rattle.leaves.proofs.number.NumbersReader.value.Goals as goal

pub returns : goal.returns
returns g c down =
    let told = ap₂ number g.met.T.Number.same_width (g.met.T.Number.same_number c.load.result) in
    rw (← c.load.ensures) (told_number _ _ refl told told)
