-- Lists of rows whose numbers are below a bound.
use Rattle.std.proofs.Common.{◌≡◌, ℕ, zero, suc, ◌<◌, true, List, [], ◌∷◌, length, get_or, arith, ltb-true}
use Rattle.std.proofs.lemmas.Bool.{and_parts}
use Rattle.runs.specs.Columns.{all_below}

-- a number of such a list is
pub below_at : (bound : ℕ) (list : List ℕ) (j : ℕ) → all_below bound list ≡ true → j < length list → get_or list j 0 < bound
below_at bound [] j e h = absurd (omega (arith, h))
below_at bound (k ∷ list) zero e h = ltb-true _ _ (and_parts _ _ e).0
below_at bound (k ∷ list) (suc j) e h = below_at bound list j (and_parts _ _ e).1 (omega (arith, h))
