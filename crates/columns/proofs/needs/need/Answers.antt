use Rattle.std.proofs.Common.{◌≡◌, ℕ, ◌-◌, ◌<◌, ◌≤◌, List, length, get_or, set, sym, ap, ◌∙◌, inl, inr, arith, length-set, get_or-set_other, get_or-set_same, Some}
use Rattle.std.proofs.lemmas.Bool.{cases_eq}
use Rattle.layout.specs.Nodes.{child, child_count, table}
use Rattle.layout.specs.Records.{nodes, record_at}
use Rattle.admission.proofs.Links.{child_behind}
use Rattle.admission.proofs.Sound.{sound_few}
use Rattle.columns.specs.Jobs.{most, need as need_of_node, needs_of, type_of}
use Rattle.columns.proofs.Nodes.{at_node, of_node}
use Rattle.columns.proofs.Needed.{need_by, need_small}
use Rattle.columns.proofs.Typed.{passed}
use Rattle.columns.proofs.needs.need.Goals as goal

pub need_of-requires : goal.need_of-requires
need_of-requires c =
    let B = c.args.image.now.bytes.now in
    let sound = c.args.image.now.sound in
    let n = c.of-node.result in
    let at : ℕ = c.loop-at.at - 1 in
    let there : at < nodes B = omega (arith, c.node_count-at.ensures, c.loop-at.auto.at) in
    let p = passed B sound at there in
    of_node (λ b t r. (i : ℕ) → i < child_count (Some t) r → (child b r i < 256) × (get_or c.loop-at.needs (child b r i) 0 ≤ 16777216))
    n B at c.of-node.ensures.bytes c.of-node.ensures.number
    (λ i l.
    let behind = child_behind B at (record_at B at) (table (type_of B at)) p.tabled p.lined i l in (
      omega (arith, behind.2, sound_few B sound (omega arith)),
      omega (arith, c.loop-at.invariant.0 (child B (record_at B at) i) (omega (arith, behind.1)) behind.2, need_small B sound (child B (record_at B at) i) behind.2),
    ))

pub loop-at-preserved : goal.loop-at-preserved
loop-at-preserved c =
    let B = c.args.image.now.bytes.now in
    let sound = c.args.image.now.sound in
    let n = c.of-node.result in
    let needs : List ℕ = c.loop-at.needs in
    let at : ℕ = c.loop-at.at - 1 in
    let there : at < nodes B = omega (arith, c.node_count-at.ensures, c.loop-at.auto.at) in
    let p = passed B sound at there in
    let made : c.need_of.result ≡ need_of_node B at =
    c.need_of.ensures
    ∙ at_node (λ b t r. most (needs_of b r needs) (child_count (Some t) r)) n B at c.of-node.ensures.bytes c.of-node.ensures.number
    ∙ need_by B sound at needs there
    (λ i l.
    let behind = child_behind B at (record_at B at) (table (type_of B at)) p.tabled p.lined i l in
    c.loop-at.invariant.0 (child B (record_at B at) i) (omega (arith, behind.1)) behind.2) in
    let within : at < length needs = omega (arith, c.loop-at.invariant.1, sound_few B sound (omega arith)) in (
      (λ k low high.
          elim (cases_eq k at) [
            | inl q ↦ ap (λ (x : ℕ). get_or (set needs at c.need_of.result) x 0) q ∙ get_or-set_same needs at c.need_of.result 0 within ∙ made ∙ sym (ap (need_of_node B) q)
            | inr q ↦ get_or-set_other needs at k c.need_of.result 0 q ∙ c.loop-at.invariant.0 k (omega arith) high
          ]),
      length-set needs at c.need_of.result ∙ c.loop-at.invariant.1,
    )
