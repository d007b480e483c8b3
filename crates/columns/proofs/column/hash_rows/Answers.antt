use Rattle.std.proofs.Common.{ℕ, ◌+◌, ◌-◌, List, get_or, take, drop, ap, ◌∙◌, arith}
use Rattle.leaves.specs.Rows.{by_place}
use Rattle.columns.specs.Jobs.{row_by, standing}
use Rattle.columns.specs.Words.{row_met, through_children}
use Rattle.columns.proofs.Children.{node_number}
use Rattle.columns.proofs.Nodes.{node_inside, node_room}
use Rattle.columns.proofs.Meeting.{by_place_same}
use Rattle.columns.proofs.Open.{below_stay}
use Rattle.columns.proofs.Splices.{get_or-lent}
use Rattle.columns.proofs.column.hash_rows.Goals as goal

pub hash_children-requires : goal.hash_children-requires
hash_children-requires g c =
    let n = c.args.met.node in
    let lo : ℕ = c.span-span.result.from in
    let count : ℕ = c.span-span.result.size in
    let rows = c.span-span.ensures.within in
    let room = node_room n lo count rows in
    record {
      rows = λ s h. omega (arith, node_inside n lo count rows s h, c.reach-reach.ensures.from, c.reach-reach.ensures.size);
      room = λ s h. omega (arith, room.1 s h, c.reach-reach.ensures.size, c.requires.room);
    }

pub slice_bounds-region-end : goal.slice_bounds-region-end
slice_bounds-region-end g c =
    let room = node_room c.args.met.node c.span-span.result.from c.span-span.result.size c.span-span.ensures.within in
    omega (arith, room.0, c.reach-reach.ensures.size, c.requires.room, c.hash_children.ensures.same)

pub returns : goal.returns
returns g c =
    let ONE = g.S.BuildHasher.one c.args.state.now in
    let SEED = g.S.HashState.seeded c.args.state.now in
    let m = c.args.met in
    let n = m.node in
    let lo : ℕ = c.span-span.result.from in
    let count : ℕ = c.span-span.result.size in
    let rows = c.span-span.ensures.within in
    let at : ℕ = c.args.at in
    let size : ℕ = c.reach-reach.result.size in
    let w : List ℕ = c.args.work.now in
    let w' : List ℕ = c.hash_children.new.work in
    let numbers : List ℕ = take (at + size - at) (drop at w') in
    let did = c.hash_children.ensures in
    record {
      words =
          c.hash.ensures
          ∙ ap (λ (from : ℕ). by_place (λ j e. row_by ONE SEED n.column.bytes.now n.t n.column.record (standing numbers from) m.first e (row_met m j)) 0 c.args.entries.now) c.reach-reach.ensures.from
          ∙ by_place_same _ _ c.args.entries.now 0
          (λ j e l.
          let met = c.span-span.ensures.met j (omega (arith, c.requires.words)) in
          node_number ONE SEED n lo count (row_met m j) numbers (λ x. get_or w (at + x) 0) m.first e rows met.0 met.1
          (λ x h.
          get_or-lent at size w' x (omega (arith, c.reach-reach.ensures.size))
          ∙ did.rows x (omega (arith, c.reach-reach.ensures.size))
          ∙ ap (λ (from : ℕ). through_children ONE SEED n (from + x) (get_or w (at + x) 0)) c.reach-reach.ensures.from));
      work = below_stay at w w' did.same did.below;
    }
