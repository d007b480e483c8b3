use Rattle.std.proofs.Common.{◌<◌, length, get_or, ap, ◌∙◌, arith}
use Rattle.leaves.proofs.Steps.{made_written}
use Rattle.columns.specs.Words.{folded_number}
use Rattle.columns.proofs.met.Fold.fold_each.Goals as goal

pub loop-j-preserved : goal.loop-j-preserved
loop-j-preserved g c =
    let h : c.loop-j.j < length c.loop-j.words = omega (arith, c.loop-j.auto.words) in
    let m : c.loop-j.j < length c.args.words.now = omega (arith, c.loop-j.auto.words) in
    made_written _ c.loop-j.words c.loop-j.j h _
    (c.number.ensures ∙ ap (folded_number c.args.self.now (get_or c.loop-j.words c.loop-j.j 0)) (c.requires.rows _ _ m c.row_at.ensures))
    ∙ c.loop-j.invariant
