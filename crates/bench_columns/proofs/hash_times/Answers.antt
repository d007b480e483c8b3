use Rattle.std.proofs.Common.{ℕ, List, None, length, ap, ◌∙◌, add-one, arith}
use Rattle.layout.specs.Records.{record_at}
use Rattle.columns.specs.Column.{column_words}
use Rattle.columns.proofs.Ranges.{short}
use Rattle.columns.proofs.Typed.{passed}
use Rattle.bench_columns.proofs.Answered.{enough}
use Rattle.bench_columns.proofs.hash_times.Goals as goal

pub hash_column-requires : goal.hash_column-requires
hash_column-requires g c =
    let B : List ℕ = c.args.image.now.bytes.now in
    let node : ℕ = c.args.timed.node in
    let fit = enough B node (length c.args.entries.now) (length c.args.work.now) c.requires in
    let few = short (record_at B node) (passed B c.args.image.now.sound node fit.0).short in
    record {
      there = fit.0;
      rows = λ j l. omega arith;
      entries = omega (arith, fit.1, c.loop-turn.auto.entries);
      few = omega (arith, few.0);
      room = omega (arith, fit.2, c.loop-turn.auto.work);
    }

pub loop-turn-preserved : goal.loop-turn-preserved
loop-turn-preserved g c =
    rw add-one
    (c.hash_column.ensures.entries
    ∙ ap (column_words (g.S.BuildHasher.one c.args.state.now) (g.S.HashState.seeded c.args.state.now) c.args.image.now.bytes.now c.args.timed.node None c.args.timed.first) c.loop-turn.invariant)
