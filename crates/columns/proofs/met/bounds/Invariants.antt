use Rattle.std.proofs.Common.{ℕ, ◌<◌, ◌≤◌, get_or}
use Rattle.columns.proofs.met.bounds.Given as goal

abbrev pub invariant-loop-row : goal.invariant-loop-row
invariant-loop-row l =
    (l.lo ≤ l.rows) × (l.till ≤ l.rows) × ((j : ℕ) → j < l.row-index → (l.lo ≤ get_or l.list j 0) × (get_or l.list j 0 < l.till))
