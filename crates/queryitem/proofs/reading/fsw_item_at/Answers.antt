use Rattle.token.proofs.Wrong.{is_wrong, not_wrong}
use Rattle.queryitem.specs.Pieces.{symbol}
use Rattle.queryitem.proofs.FswItems.{item_symbol, item_range, item_short}
use Rattle.queryitem.proofs.reading.fsw_item_at.Goals as goal

pub returns-in-Ok : goal.returns-in-Ok
returns-in-Ok c = item_symbol (symbol c.args.null) _ _ _ c.byte_at.ensures _ _ c.in-Ok.is c.symbol_at.ensures

pub returns-in-Err : goal.returns-in-Err
returns-in-Err c = item_range (symbol c.args.null) _ _ _ c.byte_at.ensures _ _ c.in-Err.is (is_wrong _ _ c.if-is_wrong_at.ensures) c.range_at.ensures

pub returns-in-Err-2 : goal.returns-in-Err-2
returns-in-Err-2 c = item_short (symbol c.args.null) _ _ _ c.byte_at.ensures _ c.in-Err.is (not_wrong _ _ c.if-is_wrong_at.ensures)
