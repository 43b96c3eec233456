use Rattle.token.proofs.Wrong.{is_wrong, not_wrong}
use Rattle.queryitem.proofs.FswItems.{symbol_null, symbol_key, symbol_fails}
use Rattle.queryitem.proofs.reading.symbol_at.Goals as goal

pub returns-in-Ok : goal.returns-in-Ok
returns-in-Ok c = symbol_null _ _ _ _ c.null_or_wrong_at.ensures _ _ c.in-Ok.is c.null_numbers.ensures

pub returns-in-Err : goal.returns-in-Err
returns-in-Err c = symbol_key _ _ _ _ c.null_or_wrong_at.ensures _ _ c.in-Err.is (is_wrong _ _ c.if-is_wrong_at.ensures) c.key_at.ensures

pub returns-in-Err-2 : goal.returns-in-Err-2
returns-in-Err-2 c = symbol_fails _ _ _ _ c.null_or_wrong_at.ensures _ c.in-Err.is (not_wrong _ _ c.if-is_wrong_at.ensures)
