use Rattle.std.proofs.Common.{◌≡◌, ℕ, ◌<◌, Option, List, subst, arith, Bor}
use Rattle.leaves.specs.Rows.{row_of}
use Rattle.columns.specs.Column.{met_rows}
use Rattle.columns.proofs.Meeting.{span_inside}
use Rattle.columns.proofs.met.Met.span.Goals as goal

pub bounds-requires : goal.bounds-requires
bounds-requires c =
    let s = c.args.self.now in
    let listed = subst (λ (o : Option (Bor (List ℕ))). met_rows s.n o ≡ s.n) c.in-Some.is s.listed in
    let there = subst (λ (o : Option (Bor (List ℕ))). (j : ℕ) → j < s.n → row_of s.rows.lo o j < s.node.column.record.rows) c.in-Some.is s.there in
    λ j l. there j (omega (arith, listed))

pub returns-in_default-clause-within : goal.returns-in_default-clause-within
returns-in_default-clause-within c =
    let s = c.args.self.now in
    span_inside s.node.column.record.rows s.rows.lo s.n s.rows.list c.in_default.not-Some s.low s.there
