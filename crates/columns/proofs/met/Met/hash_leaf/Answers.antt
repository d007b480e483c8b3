use Rattle.std.proofs.Common.{sym, subst, arith}
use Rattle.image.specs.Slot.{null}
use Rattle.leaves.specs.Rows.{RowsFor}
use Rattle.columns.proofs.Nodes.{node_leaf, node_typed}
use Rattle.columns.proofs.Meeting.{rows_for}
use Rattle.columns.proofs.met.Met.hash_leaf.Goals as goal

pub hash_leaf-requires : goal.hash_leaf-requires
hash_leaf-requires g c =
    let s = c.args.self.now in
    record {
      leaf = c.requires.leaf;
      typed = node_typed s.node;
      readable = λ j l. node_leaf s.node _ (s.there j (omega (arith, c.requires.words)));
      listed = subst (RowsFor s.rows.list) (sym c.requires.words) (rows_for s.n s.rows.list s.listed);
      fits = omega (arith, s.fits, c.requires.words);
    }

pub returns : goal.returns
returns g c = c.hash_leaf.ensures (λ _ _. null)
