use Rattle.std.proofs.Common.{◌≡◌, ℕ}
use Rattle.leaves.specs.Rows.{by_place}
use Rattle.leaves.proofs.Steps.{Made}
use Rattle.columns.specs.Words.{folded_number, row_met}
use Rattle.columns.proofs.met.Fold.fold_each.Given as goal

abbrev pub invariant-loop-j : goal.invariant-loop-j
invariant-loop-j g l =
    let f : ℕ → ℕ → ℕ = λ j e. folded_number l.self e (row_met l.self.met j) in
    Made f l.j l.words ≡ by_place f 0 l.initial.words
