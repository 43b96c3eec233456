use mathlib.Core.Path.{◌∙◌}
use Rattle.token.proofs.Handed.{handed}
use Rattle.token.proofs.Wrong.{is_wrong, not_wrong}
use Rattle.queryitem.proofs.Coordinates.{no_coordinate, absent, number_fails, second_fails, both_found}
use Rattle.queryitem.proofs.coordinate.coordinate_at.Goals as goal

pub returns-then-s-at : goal.returns-then-s-at
returns-then-s-at c = no_coordinate _ _ _ c.requires c.if-s-at.true

pub returns-in_err-y-in-Ok : goal.returns-in_err-y-in-Ok
returns-in_err-y-in-Ok c =
    handed _ _ c.from_residual.ensures.1
    ∙ second_fails _ _ _ c.if-s-at.false _ c.number_at.ensures _ _ c.in-Ok.is c.number_size.ensures _ _ c.second_at.ensures c.in_err-y-in-Ok.was

pub returns-in_ok-y-in-Ok : goal.returns-in_ok-y-in-Ok
returns-in_ok-y-in-Ok c = both_found _ _ _ c.if-s-at.false _ c.number_at.ensures _ _ c.in-Ok.is c.number_size.ensures _ _ c.second_at.ensures c.in_ok-y-in-Ok.was

pub returns-in-Err : goal.returns-in-Err
returns-in-Err c = absent _ _ _ c.if-s-at.false _ c.number_at.ensures _ c.in-Err.is (is_wrong _ _ c.if-is_wrong_at.ensures)

pub returns-in-Err-2 : goal.returns-in-Err-2
returns-in-Err-2 c = number_fails _ _ _ c.if-s-at.false _ c.number_at.ensures _ c.in-Err.is (not_wrong _ _ c.if-is_wrong_at.ensures)
