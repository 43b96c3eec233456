use native.Mathlib.Omega.{arith}
use Rattle.stylinggrammar.specs.Record.{styles_from}
use Rattle.writer.proofs.Writes.{wrote_as}
use Rattle.stylingwriter.proofs.StyleWrites.{styles_room, colours_are, zooms_are}
use Rattle.stylingwriter.proofs.PieceWrites.{symbols_none, symbols_put}
use Rattle.stylingwriter.proofs.writing.put_symbols.Goals as goal

pub returns-then-n-eq0 : goal.returns-then-n-eq0
returns-then-n-eq0 c = symbols_none c.args.styling.now.numbers.now _ c.styles-n.ensures c.if-n-eq0.true (omega arith)

pub put_styles-colours-requires : goal.put_styles-colours-requires
put_styles-colours-requires c = let e = styles_room c.args.styling.now.numbers.now c.styles-n.result in (omega arith, omega arith)

pub put_styles-requires : goal.put_styles-requires
put_styles-requires c = let e = styles_room c.args.styling.now.numbers.now c.styles-n.result in (omega arith, omega arith)

pub returns : goal.returns
returns c =
    let l = styles_from c.args.styling.now.numbers.now 0 c.styles-n.result in
    symbols_put c.args.styling.now.numbers.now c.styles-n.ensures c.if-n-eq0.false c.put_byte-dash.ensures
    (wrote_as c.put_styles-colours.ensures.wrote (colours_are l))
    (wrote_as c.put_styles.ensures.wrote (zooms_are l))
