use native.Mathlib.Omega.{arith}
use Rattle.stylingreader.proofs.Chains.{handed_part}
use Rattle.stylingreader.proofs.Marks.{stands_room}
use Rattle.stylingreader.proofs.Zooms.{zoom_fails, zoom-whole, cents-fail, zoom-cents}
use Rattle.stylingreader.proofs.zoom.zoom_at.Goals as goal

pub returns-in_err-whole : goal.returns-in_err-whole
returns-in_err-whole c = handed_part c.from_residual.ensures.1 (zoom_fails _ _ _ c.requires _ _ c.in_err-whole.ensures _)

pub returns-then-not-stands : goal.returns-then-not-stands
returns-then-not-stands c = zoom-whole _ _ _ c.requires _ _ c.in_ok-whole.ensures _ c.stands.ensures c.if-not-stands.true _ _ c.put_zoom.ensures

pub overflow_add-point : goal.overflow_add-point
overflow_add-point c = omega (arith, stands_room _ _ _ _ c.stands.ensures c.if-not-stands.false)

pub figures_at-requires-2 : goal.figures_at-requires-2
figures_at-requires-2 c = stands_room _ _ _ _ c.stands.ensures c.if-not-stands.false

pub returns-in_err-cents : goal.returns-in_err-cents
returns-in_err-cents c = handed_part c.from_residual-in_err-cents.ensures.1 (cents-fail _ _ _ c.requires _ _ c.in_ok-whole.ensures _ c.stands.ensures c.if-not-stands.false _ c.in_err-cents.ensures _)

pub returns : goal.returns
returns c = zoom-cents _ _ _ c.requires _ _ c.in_ok-whole.ensures _ c.stands.ensures c.if-not-stands.false _ c.in_ok-cents.ensures _ _ c.put_zoom-2.ensures
