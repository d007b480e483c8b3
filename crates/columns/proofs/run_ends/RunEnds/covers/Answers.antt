use Rattle.std.proofs.Common.{◌≡◌, ℕ, ◌-◌, ◌<◌, ◌≤◌, Bool, true, false, ◌&&◌, eqb, ltb, sym, ◌∙◌, subst, ap₂, inl, inr, arith}
use Rattle.std.proofs.lemmas.Bool.{cases_lt, eq-eqb, le-leb, lt-leb, lt-ltb}
use Rattle.layout.specs.Nodes.{element}
use Rattle.columns.proofs.Reaching.{ends_before, ends_behind, ends_here}
use Rattle.columns.proofs.run_ends.RunEnds.covers.Goals as goal

-- the answer, where the run is there
answer : (run runs found : ℕ) (b : Bool) → run < runs → eqb found run ≡ b → b ≡ (ltb run runs && eqb found run)
answer run runs found b h e = sym (ap₂ ◌&&◌ (lt-ltb run runs h) e)

pub returns-then-end-at : goal.returns-then-end-at
returns-then-end-at c =
    answer c.args.run c.args.self.now.count _ false c.if-run-self.false
    (ends_before c.args.self.now.width c.args.self.now.column.bytes.now c.args.self.now.column.record c.args.at c.args.run (omega (arith, c.args.self.now.counted, c.if-run-self.false)) (omega (arith, c.end.ensures, c.if-end-at.true)))

pub returns-then-run-eq0 : goal.returns-then-run-eq0
returns-then-run-eq0 c =
    answer c.args.run c.args.self.now.count _ true c.if-run-self.false
    (eq-eqb _ c.args.run
    (ends_here c.args.self.now.width c.args.self.now.column.bytes.now c.args.self.now.column.record c.args.at c.args.self.now.rising c.args.run (omega (arith, c.args.self.now.counted, c.if-run-self.false)) (omega (arith, c.end.ensures, c.if-end-at.false))
    (λ p e. absurd (omega (arith, c.if-run-eq0.true)))))

pub returns : goal.returns
returns c =
    let w = c.args.self.now.width in
    let bytes = c.args.self.now.column.bytes.now in
    let r = c.args.self.now.column.record in
    let run : ℕ = c.args.run in
    let there : run < c.args.self.now.count = c.if-run-self.false in
    let last : ℕ = element w bytes r.a (run - 1) in
    let told : c.end-2.result ≡ last = c.end-2.ensures in
    elim (cases_lt c.args.at last) [
      | inl u ↦
          lt-leb c.end-2.result c.args.at (omega arith)
          ∙ answer run c.args.self.now.count _ false there (ends_behind w bytes r c.args.at run (run - 1) (omega (arith, c.args.self.now.counted)) (omega (arith, c.if-run-eq0.false)) u)
      | inr l ↦
          le-leb c.end-2.result c.args.at (omega arith)
          ∙ answer run c.args.self.now.count _ true there
          (eq-eqb _ run
          (ends_here w bytes r c.args.at c.args.self.now.rising run (omega (arith, c.args.self.now.counted)) (omega (arith, c.end.ensures, c.if-end-at.false))
          (λ p e. let q : run - 1 ≡ p = omega arith in subst (λ (k : ℕ). element w bytes r.a k ≤ c.args.at) q l)))
    ]
