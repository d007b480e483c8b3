use Rattle.std.proofs.Common.{◌<◌, length, sym, ◌∙◌, arith}
use Rattle.leaves.proofs.Steps.{first_told, kept_null, later_told, made_all, made_written}
use Rattle.leaves.proofs.Told.{null_slot, told_unmarked}
use Rattle.leaves.proofs.hashing.Hashing.each.Goals as goal
use Rattle.leaves.proofs.hashing.Hashing.each.Goals.{then-self, else-self}

pub loop-j-preserved-then-is_null : goal.loop-j-preserved-then-is_null
loop-j-preserved-then-is_null g c down =
    let h : c.loop-j.j < length c.loop-j.entries = omega (arith, c.loop-j.auto.entries) in
    let n : c.loop-j.j < length c.args.entries.now = omega (arith, c.loop-j.auto.entries) in
    let column = c.args.self.column in
    let null = null_slot column.bytes.now column.record c.args.self.data_type down (c.requires.rows _ _ n c.row_at-row.ensures) c.is_null.ensures c.if-is_null.true in
    made_written _ c.loop-j.entries c.loop-j.j h _ (kept_null _ _ _ _ _ null) ∙ c.loop-j.invariant down

pub loop-j-preserved : goal.loop-j-preserved
loop-j-preserved g c down =
    let h : c.loop-j.j < length c.loop-j.entries = omega (arith, c.loop-j.auto.entries) in
    let n : c.loop-j.j < length c.args.entries.now = omega (arith, c.loop-j.auto.entries) in
    let column = c.args.self.column in
    let told =
    told_unmarked column.bytes.now column.record c.args.self.data_type down (c.requires.rows _ _ n c.row_at-row.ensures) c.is_null.ensures c.if-is_null.false c.requires.typed
    (c.value-value.ensures down) in
    elim c.if-self.branch [
      | then-self w ↦ made_written _ c.loop-j.entries c.loop-j.j h _ (w.entry-is ∙ w.hash_one.ensures ∙ first_told _ _ _ _ _ told w.if-self.true) ∙ c.loop-j.invariant down
      | else-self w ↦ made_written _ c.loop-j.entries c.loop-j.j h _ (w.entry-is ∙ w.hash_later.ensures ∙ later_told _ _ _ _ _ told w.if-self.false) ∙ c.loop-j.invariant down
    ]

pub returns : goal.returns
returns g c down = sym (made_all _ c.loop-j.entries c.loop-j.j (omega (arith, c.loop-j.auto.entries))) ∙ c.loop-j.invariant down
