use mathlib.Core.Path.{◌∙◌}
use Rattle.token.proofs.Handed.{handed}
use Rattle.querypart.proofs.Figures.{unsaid, v_fails, v_said, v_room}
use Rattle.querypart.proofs.variance.variance_end.Goals as goal

pub returns-then-s-at : goal.returns-then-s-at
returns-then-s-at c = unsaid _ _ c.requires c.if-s-at.true

pub returns-in_err-byte_at : goal.returns-in_err-byte_at
returns-in_err-byte_at c = handed _ _ c.from_residual.ensures.1 ∙ v_fails _ _ _ _ c.if-s-at.false c.byte_at.ensures c.in_err-byte_at.was

pub figures_end-requires : goal.figures_end-requires
figures_end-requires c = v_room _ _ _ _ c.byte_at.ensures c.in_ok-byte_at.was

pub returns : goal.returns
returns c = v_said _ _ _ _ _ c.byte_at.ensures c.in_ok-byte_at.was c.if-s-at.false c.figures_end.ensures
