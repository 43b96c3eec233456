use Rattle.stylingreader.proofs.Chains.{handed_part}
use Rattle.stylingreader.proofs.Strings.{padding_room, padding_fails, background_room, background_fails, detail_room, detail_fails, zoom_room, zoom_fails, symbols_room, symbols_fail, parts_read}
use Rattle.stylingreader.proofs.reading.parts_at.Goals as goal

pub padding_at-requires : goal.padding_at-requires
padding_at-requires c =
    padding_room _ _ c.requires _ _ _ c.colorize_at-colorize.ensures

pub returns-in_err-padding : goal.returns-in_err-padding
returns-in_err-padding c =
    handed_part c.from_residual.ensures.1 (padding_fails _ _ c.requires _ _ _ c.colorize_at-colorize.ensures _ _ c.in_err-padding.ensures)

pub background_at-requires : goal.background_at-requires
background_at-requires c =
    background_room _ _ c.requires _ _ _ c.colorize_at-colorize.ensures _ _ c.in_ok-padding.ensures

pub returns-in_err-ground : goal.returns-in_err-ground
returns-in_err-ground c =
    handed_part c.from_residual-in_err-ground.ensures.1 (background_fails _ _ c.requires _ _ _ c.colorize_at-colorize.ensures _ _ c.in_ok-padding.ensures _ _ c.in_err-ground.ensures)

pub detail_at-requires : goal.detail_at-requires
detail_at-requires c =
    detail_room _ _ c.requires _ _ _ c.colorize_at-colorize.ensures _ _ c.in_ok-padding.ensures _ _ c.in_ok-ground.ensures

pub returns-in_err-colours : goal.returns-in_err-colours
returns-in_err-colours c =
    handed_part c.from_residual-in_err-colours.ensures.1 (detail_fails _ _ c.requires _ _ _ c.colorize_at-colorize.ensures _ _ c.in_ok-padding.ensures _ _ c.in_ok-ground.ensures _ _ c.in_err-colours.ensures)

pub zoom_at-requires : goal.zoom_at-requires
zoom_at-requires c =
    zoom_room _ _ c.requires _ _ _ c.colorize_at-colorize.ensures _ _ c.in_ok-padding.ensures _ _ c.in_ok-ground.ensures _ _ c.in_ok-colours.ensures

pub returns-in_err-zoom : goal.returns-in_err-zoom
returns-in_err-zoom c =
    handed_part c.from_residual-in_err-zoom.ensures.1 (zoom_fails _ _ c.requires _ _ _ c.colorize_at-colorize.ensures _ _ c.in_ok-padding.ensures _ _ c.in_ok-ground.ensures _ _ c.in_ok-colours.ensures _ _ c.in_err-zoom.ensures)

pub from_symbols-requires : goal.from_symbols-requires
from_symbols-requires c =
    symbols_room _ _ c.requires _ _ _ c.colorize_at-colorize.ensures _ _ c.in_ok-padding.ensures _ _ c.in_ok-ground.ensures _ _ c.in_ok-colours.ensures _ _ c.in_ok-zoom.ensures

pub returns-in_err-symbols : goal.returns-in_err-symbols
returns-in_err-symbols c =
    handed_part c.from_residual-in_err-symbols.ensures.1 (symbols_fail _ _ c.requires _ _ _ c.colorize_at-colorize.ensures _ _ c.in_ok-padding.ensures _ _ c.in_ok-ground.ensures _ _ c.in_ok-colours.ensures _ _ c.in_ok-zoom.ensures _ _ c.in_err-symbols.ensures)

pub returns : goal.returns
returns c =
    parts_read _ _ c.requires _ _ _ c.colorize_at-colorize.ensures _ _ c.in_ok-padding.ensures _ _ c.in_ok-ground.ensures _ _ c.in_ok-colours.ensures _ _ c.in_ok-zoom.ensures _ _ c.in_ok-symbols.ensures _ _ _ _ _ c.joined.ensures c.joined-from_colours.ensures c.joined-2.ensures c.joined-3.ensures c.joined-4.ensures
