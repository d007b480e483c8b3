use Rattle.std.proofs.Common.{◌≡◌, None}
use Rattle.columns.specs.Column.{column_words}
use Rattle.bench_columns.specs.Times.{repeated}
use Rattle.bench_columns.proofs.hash_times.Given as goal

abbrev pub invariant-loop-turn : goal.invariant-loop-turn
invariant-loop-turn g l =
    l.entries ≡ repeated l.turn (column_words (g.S.BuildHasher.one l.state) (g.S.HashState.seeded l.state) l.fn.image.bytes.now l.fn.timed.node None l.fn.timed.first) l.initial.entries
