use Rattle.std.proofs.Common.{◌≡◌, ℕ, sym, refl, ap, ◌∙◌, arith}
use Rattle.layout.specs.declared.data_type.DataType.{DataType}
use Rattle.layout.specs.declared.data_type.DataType.TheVariants.{Dictionary}
use Rattle.leaves.specs.Rows.{by_place}
use Rattle.columns.specs.Fold.{row_number}
use Rattle.columns.specs.Jobs.{reach_from, standing}
use Rattle.columns.specs.Words.{row_met}
use Rattle.columns.proofs.Nodes.{refers_to_child}
use Rattle.columns.proofs.met.Fold.fold_keys.Goals as goal

pub of-rows-requires : goal.of-rows-requires
of-rows-requires g c = refers_to_child c.args.self.now.met.node (Dictionary g.K.Native.width c.args.signed) c.requires.kind refl (λ one. omega arith)

pub returns : goal.returns
returns g c =
    let s = c.args.self.now in
    let n = s.met.node in
    let from : s.region.from ≡ 0 = s.from ∙ ap (λ (t : DataType). reach_from t n.column.bytes.now n.column.record s.span.from) c.requires.kind in
    c.fold_array.ensures
    ∙ ap (λ (k : ℕ).
    by_place (λ j e. row_number n.t n.column.bytes.now n.column.record (standing s.region.numbers.now k) s.met.first e (row_met s.met j)) 0 c.args.words.now) (sym from)
