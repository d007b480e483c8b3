use Rattle.std.proofs.Common.{ℕ, ◌+◌, length, sym, subst, arith}
use Rattle.layout.specs.declared.column.Column.{Column}
use Rattle.layout.specs.declared.data_type.DataType.{DataType}
use Rattle.columns.specs.Jobs.{reach_from}
use Rattle.columns.specs.Seams.{FoldThere}
use Rattle.columns.proofs.Nodes.{node_fold, node_short}
use Rattle.columns.proofs.met.Fold.number.Goals as goal

pub fold-requires : goal.fold-requires
fold-requires g c =
    let s = c.args.self.now in
    let n = s.met.node in
    let row : ℕ = c.args.row in
    let few = node_short n in
    let A = c.args.array.now in
    let there : FoldThere n.t n.column.bytes.now n.column.record (n.column.record.start + row) s.region.from (length s.region.numbers.now) =
    subst (λ (k : ℕ). FoldThere n.t n.column.bytes.now n.column.record (n.column.record.start + row) k (length s.region.numbers.now)) (sym s.from)
    (subst (FoldThere n.t n.column.bytes.now n.column.record (n.column.record.start + row) (reach_from n.t n.column.bytes.now n.column.record s.span.from)) (sym s.size)
    (node_fold n s.span.from s.span.size row s.within c.requires.covered.0 c.requires.covered.1 (sym c.if-is_marked.ensures))) in
    record {
      reached =
          (subst (λ (t : DataType). FoldThere t (g.A.NestedArray.column A).bytes.now (g.A.NestedArray.column A).record (n.column.record.start + row) s.region.from (length s.region.numbers.now)) (sym c.requires.kind)
          (subst (λ (x : Column). FoldThere n.t x.bytes.now x.record (n.column.record.start + row) s.region.from (length s.region.numbers.now)) (sym c.requires.column) there));
      small = omega (arith, s.within, c.requires.covered.1, few.0, few.1);
    }

pub overflow_cast-row : goal.overflow_cast-row
overflow_cast-row g c =
    let s = c.args.self.now in
    let few = node_short s.met.node in
    omega (arith, s.within, c.requires.covered.1, few.0, few.1)

pub overflow_add-at : goal.overflow_add-at
overflow_add-at g c =
    let s = c.args.self.now in
    let few = node_short s.met.node in
    omega (arith, s.within, c.requires.covered.1, few.0, few.1)
