use Rattle.std.proofs.Common.{Bool, cond, ap, ◌∙◌}
use Rattle.image.specs.Read.{typed_slot}
use Rattle.image.specs.Slot.{null}
use Rattle.leaves.specs.Rows.{by_place}
use Rattle.row_rule.specs.Number.{number_of}
use Rattle.columns.specs.Words.{folded_number, row_met}
use Rattle.columns.proofs.met.Fold.hash.Goals as goal

pub returns-then-is_leaf : goal.returns-then-is_leaf
returns-then-is_leaf g c =
    let s = c.args.self in
    let m = s.met in
    let n = m.node in
    c.hash_leaf.ensures
    ∙ ap (λ (b : Bool).
    by_place (λ j e.
    cond b (number_of (g.S.BuildHasher.one c.args.state.now) (g.S.HashState.seeded c.args.state.now) m.first e (typed_slot n.t n.column.bytes.now n.column.record (λ _ _. null) (row_met m j)))
    (folded_number s e (row_met m j))) 0 c.args.words.now) c.if-is_leaf.ensures
