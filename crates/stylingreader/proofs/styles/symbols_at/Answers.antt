use Rattle.stylingreader.proofs.Chains.{handed_part}
use Rattle.stylingreader.proofs.Symbols.{colours_fail, colours_room, zooms_fail, symbols-read}
use Rattle.stylingreader.proofs.styles.symbols_at.Goals as goal

pub returns-in_err-colours : goal.returns-in_err-colours
returns-in_err-colours c = handed_part c.from_residual.ensures.1 (colours_fail _ _ c.requires _ _ _ _ c.in_err-colours.ensures)

pub styles_at-requires-2 : goal.styles_at-requires-2
styles_at-requires-2 c = colours_room _ _ c.requires _ _ _ c.in_ok-colours.ensures

pub returns-in_err-zooms : goal.returns-in_err-zooms
returns-in_err-zooms c = handed_part c.from_residual-in_err-zooms.ensures.1 (zooms_fail _ _ c.requires _ _ _ c.in_ok-colours.ensures _ _ _ c.in_err-zooms.ensures)

pub returns : goal.returns
returns c = symbols-read _ _ c.requires _ _ _ c.in_ok-colours.ensures _ _ _ _ c.in_ok-zooms.ensures c.joined.ensures c.put.ensures
