use Rattle.std.proofs.Common.{sym, ◌∙◌}
use Rattle.token.proofs.Handed.{handed}
use Rattle.part.proofs.Placing.{number_refused, second_refused, both_found}
use Rattle.part.proofs.reading.point_after.Goals as goal

pub returns-in_err-x : goal.returns-in_err-x
returns-in_err-x c = handed _ _ c.from_residual.ensures.1 ∙ number_refused _ _ _ _ _ (sym c.number_at.ensures ∙ c.in_err-x.was)

pub returns-in_err-y : goal.returns-in_err-y
returns-in_err-y c = handed _ _ c.from_residual-in_err-y.ensures.1 ∙ second_refused _ _ _ _ _ _ (sym c.number_at.ensures ∙ c.in_ok-x.was) c.number_size-size.ensures _ (sym c.second_at.ensures ∙ c.in_err-y.was)

pub returns : goal.returns
returns c = both_found _ _ _ _ _ _ (sym c.number_at.ensures ∙ c.in_ok-x.was) c.number_size-size.ensures _ (sym c.second_at.ensures ∙ c.in_ok-y.was)
