use borrow.Author.Tests.{eq-eqb, ne_eqb, lt-ltb, le-ltb}
use Rattle.token.specs.Ends.{left_over}
use Rattle.token.proofs.reading.left_over.Goals as goal

pub returns-then-at-size : goal.returns-then-at-size
unfolding left_over
returns-then-at-size c = simp (eq-eqb _ _ c.if-at-size.true)

pub returns-then-size-at : goal.returns-then-size-at
unfolding left_over
returns-then-size-at c = simp (ne_eqb _ _ c.if-at-size.false, ← c.unit.ensures, lt-ltb _ _ c.if-size-at.true)

pub returns : goal.returns
unfolding left_over
returns c = simp (ne_eqb _ _ c.if-at-size.false, ← c.unit.ensures, le-ltb _ _ c.if-size-at.false)
