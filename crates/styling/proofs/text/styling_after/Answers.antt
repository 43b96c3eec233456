use mathlib.Core.Path.{ap, ◌∙◌}
use Rattle.token.specs.Result.{outcome, on_done}
use Rattle.token.proofs.Handed.{handed}
use Rattle.styling.proofs.Judging.{after_refused, after_judged}
use Rattle.styling.proofs.text.styling_after.Goals as goal

pub returns-in_err-found : goal.returns-in_err-found
returns-in_err-found c =
    after_refused _ _ c.requires _ _ _ _ _ c.in_err-found.ensures c.from_residual.ensures.1

pub returns-in_err-within : goal.returns-in_err-within
returns-in_err-within c =
    after_judged _ _ c.requires _ _ _ _ _ c.in_ok-found.ensures (ap outcome (handed _ _ c.from_residual-in_err-within.ensures.1) ∙ ap (λ r. on_done (λ h. (h, c.args.at)) (outcome r)) c.in_err-within.ensures)

pub returns : goal.returns
returns c =
    after_judged _ _ c.requires _ _ _ _ _ c.in_ok-found.ensures (ap (λ r. on_done (λ h. (h, c.args.at)) (outcome r)) c.in_ok-within.ensures)
