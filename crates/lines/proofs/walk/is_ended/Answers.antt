use mathlib.Core.Path.{◌∙◌}
use borrow.Author.Tests.{eq-eqb}
use Rattle.lines.proofs.Ends.{ended_none, ended_last}
use Rattle.lines.proofs.walk.is_ended.Goals as goal

pub returns-then-n-eq0 : goal.returns-then-n-eq0
returns-then-n-eq0 c = eq-eqb _ _ c.if-n-eq0.true ∙ ended_none _ c.if-n-eq0.true

pub returns-else-n-eq0 : goal.returns-else-n-eq0
returns-else-n-eq0 c = ended_last _ c.if-n-eq0.false
