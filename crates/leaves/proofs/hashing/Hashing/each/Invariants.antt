use Rattle.std.proofs.Common.{◌≡◌, ℕ}
use Rattle.image.specs.Read.{typed_slot}
use Rattle.image.specs.Slot.{Slot}
use Rattle.row_rule.specs.Number.{number_of}
use Rattle.leaves.specs.Rows.{by_place, row_of}
use Rattle.leaves.proofs.Steps.{Made}
use Rattle.leaves.proofs.hashing.Hashing.each.Given as goal

abbrev pub invariant-loop-j : goal.invariant-loop-j
invariant-loop-j g l =
    (down : ℕ → ℕ → Slot) →
    let f : ℕ → ℕ → ℕ = λ j e. number_of (g.S.BuildHasher.one l.self.state.now) (g.S.HashState.seeded l.self.state.now) l.self.first e (typed_slot l.self.data_type l.self.column.bytes.now l.self.column.record down (row_of l.self.rows.lo l.self.rows.list j)) in
    Made f l.j l.entries ≡ by_place f 0 l.initial.entries
