use Rattle.std.proofs.Common.{sym}
use Rattle.runs.proofs.Going.{all_below_more, keep_goes}
use Rattle.runs.proofs.keep.keep_rows.Goals as goal

pub keep_words-requires-clause-there : goal.keep_words-requires-clause-there
keep_words-requires-clause-there c =
    let goes = keep_goes _ _ _ (sym c.in_ok-judge_keep.ensures) in
    all_below_more _ _ c.args.list.now goes.room goes.below
