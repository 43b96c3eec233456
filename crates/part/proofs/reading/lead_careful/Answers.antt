use Rattle.std.proofs.Common.{sym, ◌∙◌, arith}
use Rattle.charset.proofs.Sets.{lawful}
use Rattle.token.proofs.Handed.{handed}
use Rattle.part.proofs.Placing.{placed_after, placed_refused}
use Rattle.part.proofs.reading.lead_careful.Goals as goal

pub returns-in_err-marker : goal.returns-in_err-marker
returns-in_err-marker c = handed _ _ c.from_residual.ensures.1 ∙ placed_refused _ _ _ ((lawful c.args.set).marker 1 4 (omega arith) (omega arith)) _ _ _ (sym c.in_err-marker.was ∙ c.marker_at.ensures)

pub returns : goal.returns
returns c = c.point_after.ensures ∙ placed_after _ _ _ ((lawful c.args.set).marker 1 4 (omega arith) (omega arith)) _ _ _ _ c.marker_size-size.ensures (sym c.in_ok-marker.was ∙ c.marker_at.ensures)
