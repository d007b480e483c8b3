-- The bit of a row is there since the image is sound.
use Rattle.std.proofs.Common.{ℕ, List, sym, subst}
use Rattle.layout.specs.Nodes.{HoldsBit}
use Rattle.image.proofs.Children.{node_there, record_read}
use Rattle.image.proofs.Readable.{row_readable}
use Rattle.summary.proofs.is_null.Goals as goal

pub is_null-requires : goal.is_null-requires
is_null-requires c reads =
    let bytes = c.args.image.now.bytes.now in
    let r = c.args.r.now in
    let there = node_there bytes c.args.node r c.requires.node in
    let read = record_read bytes c.args.node r c.requires.node in
    let held = (row_readable bytes c.args.image.now.sound c.args.node c.args.row r c.in-Some.t read c.in-Some.ensures there c.requires.row).0 reads in
    subst (λ (x : List ℕ). HoldsBit x r c.args.row) (sym c.bytes.ensures) held
