use native.Mathlib.Omega.{arith}
use borrow.Author.Tests.{le-ltb, lt-leb}
use Rattle.charset.specs.declared.Charset.TheVariants.{Fsw, Swu}
use Rattle.prefixes.proofs.Reading.{one_byte, not_there, told_by}
use Rattle.prefixes.proofs.order.is_marked.Goals as goal

pub returns-then-at-s : goal.returns-then-at-s
returns-then-at-s c = rw c.in-Fsw.is (told_by Fsw _ _ _ (one_byte c.args.s.now c.args.at c.if-at-s.true))

pub returns-else-at-s : goal.returns-else-at-s
returns-else-at-s c = rw c.in-Fsw.is (not_there Fsw c.args.s.now c.args.at (omega arith) _ (le-ltb _ _ c.if-at-s.false))

pub returns-then-at-s-2 : goal.returns-then-at-s-2
returns-then-at-s-2 c = rw c.in-Swu.is (told_by Swu _ _ _ c.number_at.ensures.is)

pub returns-else-at-s-2 : goal.returns-else-at-s-2
returns-else-at-s-2 c = rw c.in-Swu.is (not_there Swu c.args.s.now c.args.at c.if-at-s-2.false _ (lt-leb _ _ c.if-at-s-2.false))
