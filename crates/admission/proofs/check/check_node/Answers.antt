use Rattle.std.proofs.Common.{ℕ, None, Option, sym, ap, ◌∙◌, arith, rules}
use Rattle.std.proofs.lemmas.Result.{err_from_is_err_and}
use Rattle.admission.specs.FirstFault.{at_node}
use Rattle.admission.proofs.Typed.{Placed, Settled, children_behind, placed_height, placed_linked}
use Rattle.admission.proofs.check.check_node.Goals as goal
use Rattle.admission.proofs.check.check_node.Goals.{After-highest-below, After-listed}

placed : (c : After-listed) → Placed c.args.bytes.now c.args.node c.read-column.result.record c.in-Some.data_type c.listed.result
placed c =
    record {
      read = c.read-column.ensures.record;
      typed = c.in-Some.ensures;
      short = search rules;
      tabled = search rules;
      lined = search rules;
      counted = search rules;
    }

settled : (c : After-highest-below) → Settled c.args.bytes.now c.args.node c.read-column.result.record c.in-Some.data_type c.highest-below.result
settled c =
    placed_height (placed (goal.at.After-highest-below c).After-listed) c.args.heights.now c.requires.heights c.highest-below.result
    (rw c.read-column.ensures.bytes at c.highest-below.ensures)

pub highest-below-requires : goal.highest-below-requires
highest-below-requires c k h =
    let there = children_behind (placed c) k h in
    rw c.read-column.ensures.bytes (there.0, omega (arith, there.2, c.requires.count))

pub returns-then-below-ge-MAX_HEIGHT : goal.returns-then-below-ge-MAX_HEIGHT
returns-then-below-ge-MAX_HEIGHT c =
    let fault = (settled (goal.at.returns-then-below-ge-MAX_HEIGHT c).After-highest-below).high c.if-below-ge-MAX_HEIGHT.true in
    record { fault = sym (ap (λ (o : Option ℕ). at_node o c.args.node None) fault); height = tt }

pub invariant_of-check_buffers : goal.invariant_of-check_buffers
invariant_of-check_buffers c =
    record {
      short = sym c.if-is_too_long.ensures;
      linked = rw c.read-column.ensures.bytes (placed_linked (placed (goal.at.invariant_of-check_buffers c).After-listed) c.requires.headed);
    }

pub returns-in_err-check_buffers : goal.returns-in_err-check_buffers
returns-in_err-check_buffers c =
    let fault = (settled (goal.at.returns-in_err-check_buffers c).After-highest-below).low c.if-below-ge-MAX_HEIGHT.false in
    let p = err_from_is_err_and c.from_residual.result c.from_residual.ensures.1 in
    record {
      fault =
          rw (p.1, p.2)
          ((rw c.read-column.ensures.bytes at c.in_err-check_buffers.ensures) ∙ sym (ap (λ (o : Option ℕ). at_node o c.args.node None) fault));
      height = rw p.1 tt;
    }

pub returns : goal.returns
returns c =
    let done = settled (goal.at.returns c).After-highest-below in
    record {
      fault =
          (rw c.read-column.ensures.bytes at c.in_ok-check_buffers.ensures)
          ∙ sym (ap (λ (o : Option ℕ). at_node o c.args.node None) (done.low c.if-below-ge-MAX_HEIGHT.false));
      height = done.height;
    }
