use Rattle.std.proofs.Common.{◌≡◌, ℕ, ◌-◌, List, ◌++◌, length, take, drop, ap, ◌∙◌, ap₂, arith}
use borrow.Rule.Slice.PartMut.{Post-is, post_of}
use Rattle.std.proofs.lemmas.List.{length-take}
use Rattle.layout.specs.Records.{record_at}
use Rattle.image.specs.Read.{slot_at}
use Rattle.row_rule.specs.Number.{number_of}
use Rattle.leaves.specs.Rows.{by_place, row_of}
use Rattle.columns.specs.Column.{met_rows}
use Rattle.columns.specs.Jobs.{need as need_of}
use Rattle.columns.proofs.Nodes.{at_node}
use Rattle.columns.proofs.Open.{fewer_open}
use Rattle.columns.proofs.column.hash_column.Goals as goal

pub hash_rows-requires : goal.hash_rows-requires
hash_rows-requires g c =
    let s = c.args.selection in
    let bytes = s.image.now.bytes.now in
    let n = c.of-node.result in
    let rows : n.column.record.rows ≡ (record_at bytes s.node).rows = at_node (λ b t r. r.rows) n bytes s.node c.of-node.ensures.bytes c.of-node.ensures.number in
    let met : c.rows_met-rows.result ≡ met_rows (record_at bytes s.node).rows s.list = c.rows_met-rows.ensures ∙ ap (λ (m : ℕ). met_rows m s.list) rows in
    record {
      words = simp length-take (omega (arith, met, c.requires.entries));
      room = omega (arith, ap₂ need_of c.of-node.ensures.bytes c.of-node.ensures.number, c.min-at.ensures, c.requires.room);
    }

pub returns : goal.returns
returns g c =
    let s = c.args.selection in
    let image = s.image.now in
    let n = c.of-node.result in
    let bytes = c.of-node.ensures.bytes in
    let es : List ℕ = c.args.entries.now in
    let rows : n.column.record.rows ≡ (record_at image.bytes.now s.node).rows = at_node (λ b t r. r.rows) n image.bytes.now s.node bytes c.of-node.ensures.number in
    let R : ℕ = c.rows_met-rows.result in
    let met : R ≡ met_rows (record_at image.bytes.now s.node).rows s.list = c.rows_met-rows.ensures ∙ ap (λ (m : ℕ). met_rows m s.list) rows in
    let whole : R - 0 ≡ R = omega arith in
    let F : List ℕ → ℕ → ℕ → ℕ → ℕ = λ b k j e. number_of (g.S.BuildHasher.one c.args.state.now) (g.S.HashState.seeded c.args.state.now) c.args.first e (slot_at b k (row_of 0 s.list j)) in
    record {
      entries =
          ap (λ (xs : List ℕ). xs ++ post_of 0 (R - 0) es) c.hash_rows.ensures.words
          ∙ ap₂ (λ (b : List ℕ) (k : ℕ). by_place (F b k) 0 (take (R - 0) es) ++ post_of 0 (R - 0) es) bytes c.of-node.ensures.number
          ∙ ap₂ (λ (m : ℕ) (xs : List ℕ). by_place (F image.bytes.now s.node) 0 (take m es) ++ xs) whole (Post-is 0 R es (omega arith))
          ∙ ap (λ (m : ℕ). by_place (F image.bytes.now s.node) 0 (take m es) ++ drop m es) met;
      work = fewer_open c.args.claimed c.min-at.result (length c.args.work.now) c.args.work.now c.hash_rows.new.work c.min-at.ensures c.hash_rows.ensures.work;
    }
