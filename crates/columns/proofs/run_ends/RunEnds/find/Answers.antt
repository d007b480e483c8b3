use Rattle.std.proofs.Common.{◌≡◌, ℕ, ◌+◌, ◌-◌, ◌/◌, ◌<◌, ◌≤◌, ltb, sym, arith}
use Rattle.std.proofs.lemmas.Bool.{le-ltb, lt-ltb}
use Rattle.layout.specs.Nodes.{child_rows, element}
use Rattle.columns.proofs.Reaching.{ends_rise, first_is}
use Rattle.columns.proofs.run_ends.RunEnds.find.Goals as goal

pub loop-low-preserved-then-end-at : goal.loop-low-preserved-then-end-at
loop-low-preserved-then-end-at c =
    let middle : ℕ = c.loop-low.low + (c.loop-low.high - c.loop-low.low) / 2 in
    let bytes = c.args.self.now.column.bytes.now in
    let r = c.args.self.now.column.record in
    let above : c.args.at < element c.args.self.now.width bytes r.a middle = omega (arith, c.end.ensures, c.if-end-at.true) in (
      omega arith,
      omega (arith, c.loop-low.invariant.1),
      c.loop-low.invariant.2,
      λ k l m. omega (arith, ends_rise c.args.self.now.width bytes r c.args.self.now.rising middle k l (omega (arith, c.args.self.now.counted))),
    )

pub loop-low-preserved : goal.loop-low-preserved
loop-low-preserved c =
    let middle : ℕ = c.loop-low.low + (c.loop-low.high - c.loop-low.low) / 2 in
    let bytes = c.args.self.now.column.bytes.now in
    let r = c.args.self.now.column.record in
    let below : element c.args.self.now.width bytes r.a middle ≤ c.args.at = omega (arith, c.end.ensures, c.if-end-at.false) in (
      omega arith,
      c.loop-low.invariant.1,
      (λ k l. omega (arith, ends_rise c.args.self.now.width bytes r c.args.self.now.rising k middle (omega arith) (omega (arith, c.args.self.now.counted, c.loop-low.invariant.1)))),
      c.loop-low.invariant.3,
    )

pub returns : goal.returns
returns c =
    let bytes = c.args.self.now.column.bytes.now in
    let r = c.args.self.now.column.record in
    let low : ℕ = c.loop-low.low in
    let same : c.loop-low.high ≡ low = omega (arith, c.loop-low.invariant.0) in
    sym (first_is (child_rows bytes r 0) (λ k. ltb c.args.at (element c.args.self.now.width bytes r.a k)) low (omega (arith, c.loop-low.invariant.1, c.args.self.now.counted))
    (λ k l. le-ltb c.args.at (element c.args.self.now.width bytes r.a k) (c.loop-low.invariant.2 k l))
    (λ l. lt-ltb c.args.at (element c.args.self.now.width bytes r.a low) (c.loop-low.invariant.3 low (omega arith) (omega (arith, c.args.self.now.counted)))))
