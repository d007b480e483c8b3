use Rattle.std.proofs.Common.{◌≡◌, drop}
use Rattle.text.specs.Text.{with_digits}
use Rattle.text.proofs.numeral.Given as goal

abbrev pub invariant-loop-digit : goal.invariant-loop-digit
invariant-loop-digit l = with_digits l.base 0 l.digits ≡ with_digits l.base l.value (drop l.digit-index l.digits)
