use native.Mathlib.Omega.{arith}
use borrow.Author.Tests.{lt-ltb, le-ltb}
use Rattle.scalar.proofs.reading.distance.Goals as goal

pub returns-then-b-from : goal.returns-then-b-from
returns-then-b-from c = rw (lt-ltb _ _ c.if-b-from.true) (omega arith)

pub returns : goal.returns
returns c = rw (le-ltb _ _ c.if-b-from.false) c.from.ensures
