use Rattle.std.proofs.Common.{◌≡◌, ◌+◌, ◌*◌, ◌%◌, ◌^◌, arith}
use Rattle.layout.specs.Bytes.{field}
use Rattle.leaves.proofs.Padded.{inline_told, long_told, low_word}
use Rattle.leaves.proofs.Told.{told_view}
use Rattle.leaves.proofs.view.ViewsReader.value.Goals as goal

pub returns-then-size-le12 : goal.returns-then-size-le12
returns-then-size-le12 c down =
    let bytes = c.args.column.now.bytes.now in
    let view = c.view_place-view.result in
    let low : c.from.result + c.from-then-size-le12.result * 2 ^ 32 % 2 ^ 64 ≡ field 8 bytes view =
    omega (arith, low_word bytes view, c.load-size.ensures, c.load.ensures, c.from.ensures, c.from-then-size-le12.ensures) in
    told_view _ _
    (inline_told c.args.column.now.bytes.now c.args.column.now.record c.args.row c.requires.there.1 c.requires.unmarked c.requires.there.2
    c.view_place-view.result c.load-size.result c.view_place-view.ensures c.load-size.ensures
    _ c.load-then-size-le12.result c.if-size-le12.true low c.load-then-size-le12.ensures)

pub returns : goal.returns
returns c down =
    told_view _ _
    (long_told c.args.column.now.bytes.now c.args.column.now.record c.args.row c.requires.there.1 c.requires.unmarked c.requires.there.2
    c.view_place-view.result c.load-size.result c.view_place-view.ensures c.load-size.ensures
    c.long_view_place-place.result c.if-size-le12.false c.long_view_place-place.ensures)
