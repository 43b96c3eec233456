use Rattle.runs.proofs.Whole.{unended, not_searched_lem, within, ended_so}
use mathlib.Core.Path.{refl, ap}
use mathlib.Core.Bool.{not}
use Rattle.token.proofs.Handed.{handed}
use Rattle.token.proofs.Refusals.{counted}
use Rattle.runs.proofs.run_queries.Goals as goal

pub returns-then-not-is_ended : goal.returns-then-not-is_ended
returns-then-not-is_ended c = unended _ _ _ _ _ _ c.is_ended.ensures (ap not c.if-not-is_ended.true) _ refl

pub returns-in_err-found : goal.returns-in_err-found
returns-in_err-found c =
    rw (handed _ _ c.from_residual.ensures.1)
    (not_searched_lem _ _ _ _ _ _ c.is_ended.ensures (ap not c.if-not-is_ended.false) _ _ c.in_err-found.ensures.answer c.in_err-found.ensures.memory (counted _) _ refl)

pub narrow_each-requires : goal.narrow_each-requires
narrow_each-requires c = within _ _ _ _ _ _ c.is_ended.ensures (ap not c.if-not-is_ended.false) _ _ c.in_ok-found.ensures.answer c.in_ok-found.ensures.memory refl

pub returns : goal.returns
returns c = ended_so _ _ _ _ _ _ c.is_ended.ensures (ap not c.if-not-is_ended.false) _ _ c.in_ok-found.ensures.answer c.in_ok-found.ensures.memory refl _ _ c.narrow_each.ensures
