use Rattle.std.proofs.Common.{ℕ, Option, length, slice_index, ap}
use Rattle.runs.specs.Refusals.{unless}
use Rattle.runs.specs.Requests.{read, refused, row_read}
use Rattle.runs.specs.Runs.{begun_run}
use Rattle.runs.proofs.Agreeing.{follows}
use Rattle.runs.proofs.run.BegunRun.read.Goals as goal

pub returns-clause-ledger : goal.returns-clause-ledger
returns-clause-ledger c = λ ONE SEED.
    follows ONE SEED (begun_run c.args.self.now c.args.entries.now) (read c.args.row (length c.args.entries.now)) _ _
    (ap (λ (o : Option ℕ). unless o refused (row_read (slice_index c.args.entries.now c.args.row) c.args.self.now.count)) c.in_ok-judge_read.ensures)
    (ap (λ (o : Option ℕ). unless o (λ _. begun_run c.args.self.now c.args.entries.now) (begun_run c.args.self.now c.args.entries.now)) c.in_ok-judge_read.ensures)
