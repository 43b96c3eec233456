use mathlib.Core.Path.{◌∙◌}
use Rattle.token.proofs.Handed.{handed}
use Rattle.token.proofs.Wrong.{is_wrong, not_wrong}
use Rattle.queryitem.proofs.Digits.{open_digit, open_short, open_fails, open_any}
use Rattle.queryitem.proofs.reading.open_at.Goals as goal

pub returns-in-Ok : goal.returns-in-Ok
returns-in-Ok c = open_digit _ _ _ _ c.digit_at.ensures _ c.in-Ok.is

pub returns-in_err-byte_at-in-Err : goal.returns-in_err-byte_at-in-Err
returns-in_err-byte_at-in-Err c =
    handed _ _ c.from_residual.ensures.1
    ∙ open_fails _ _ _ _ c.digit_at.ensures c.requires _ c.in-Err.is (is_wrong _ _ c.if-is_wrong_at.ensures) _ _ c.byte_at.ensures c.in_err-byte_at-in-Err.was

pub returns-in_ok-byte_at-in-Err : goal.returns-in_ok-byte_at-in-Err
returns-in_ok-byte_at-in-Err c = open_any _ _ _ _ c.digit_at.ensures c.requires _ c.in-Err.is (is_wrong _ _ c.if-is_wrong_at.ensures) _ _ c.byte_at.ensures c.in_ok-byte_at-in-Err.was

pub returns-in-Err-2 : goal.returns-in-Err-2
returns-in-Err-2 c = open_short _ _ _ _ c.digit_at.ensures c.requires _ c.in-Err.is (not_wrong _ _ c.if-is_wrong_at.ensures)
