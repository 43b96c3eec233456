use mathlib.Core.Path.{sym}
use Rattle.matching.proofs.Loops.{number_found, number_none}
use Rattle.matching.proofs.judging.Row.first_serving.Goals as goal

pub returns-then-serves : goal.returns-then-serves
returns-then-serves c = number_found _ _ _ _ c.loop-i.invariant c.loop-i-test.true (sym c.if-serves.ensures)

pub returns : goal.returns
returns c = number_none _ _ _ _ c.loop-i.invariant c.loop-i-test.false
