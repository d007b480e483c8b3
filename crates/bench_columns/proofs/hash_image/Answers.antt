use Rattle.std.proofs.Common.{length, sym, ◌∙◌}
use Rattle.bench_columns.proofs.Answered.{can, hashed, kept}
use Rattle.bench_columns.proofs.hash_image.Goals as goal

pub returns-then-not-is_fitting-clause-answer : goal.returns-then-not-is_fitting-clause-answer
returns-then-not-is_fitting-clause-answer g c =
    can c.args.bytes.now c.admit.new.self.bytes.now c.args.timed c.in-Ok.ensures.fault c.in-Ok.ensures.place (length c.args.entries.now) (length c.args.work.now) _
    (sym c.if-not-is_fitting.true ∙ c.is_fitting.ensures)

pub returns-then-not-is_fitting-clause-entries : goal.returns-then-not-is_fitting-clause-entries
returns-then-not-is_fitting-clause-entries g c =
    kept c.args.bytes.now c.admit.new.self.bytes.now c.args.timed c.in-Ok.ensures.fault c.in-Ok.ensures.place (g.S.BuildHasher.one c.args.state.now) (g.S.HashState.seeded c.args.state.now)
    (length c.args.work.now) c.args.entries.now (sym c.if-not-is_fitting.true ∙ c.is_fitting.ensures)

pub returns-clause-answer : goal.returns-clause-answer
returns-clause-answer g c =
    can c.args.bytes.now c.admit.new.self.bytes.now c.args.timed c.in-Ok.ensures.fault c.in-Ok.ensures.place (length c.args.entries.now) (length c.args.work.now) _
    (sym c.if-not-is_fitting.false ∙ c.is_fitting.ensures)

pub returns-clause-entries : goal.returns-clause-entries
returns-clause-entries g c =
    c.hash_times.ensures
    ∙ hashed c.args.bytes.now c.admit.new.self.bytes.now c.args.timed c.in-Ok.ensures.fault c.in-Ok.ensures.place (g.S.BuildHasher.one c.args.state.now) (g.S.HashState.seeded c.args.state.now)
    (length c.args.work.now) c.args.entries.now (sym c.if-not-is_fitting.false ∙ c.is_fitting.ensures)
