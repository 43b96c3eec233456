use borrow.Author.Tests.{le-ltb}
use Rattle.queryitem.proofs.SwuItems.{stands_end, stands_here}
use Rattle.queryitem.proofs.swu.stands.Goals as goal

pub returns-then-at-s : goal.returns-then-at-s
returns-then-at-s c = stands_here _ _ _ c.if-at-s.true

pub returns-else-at-s : goal.returns-else-at-s
returns-else-at-s c = rw (le-ltb _ _ c.if-at-s.false) (stands_end _ _ _ c.if-at-s.false c.requires)
