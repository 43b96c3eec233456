use Rattle.report.proofs.Searching.{too_large, searches}
use mathlib.Core.Path.{refl, ap}
use mathlib.Core.Bool.{not}
use Rattle.report.proofs.find.Goals as goal

pub returns-then-not-allowed : goal.returns-then-not-allowed
returns-then-not-allowed c = too_large _ _ _ c.is_within-allowed.ensures _ _ (ap not c.if-not-allowed.true) refl

pub returns : goal.returns
returns c = searches _ _ _ c.is_within-allowed.ensures _ _ (ap not c.if-not-allowed.false) c.requires c.search.ensures.answer _ c.search.ensures.memory
