use mathlib.Core.Path.{sym, ◌∙◌}
use Rattle.list.proofs.Marking.{looking_here, looking_more, looking_end}
use Rattle.list.proofs.bits.first_of.Goals as goal

pub returns-then-has : goal.returns-then-has
returns-then-has c = rw c.from-e.ensures (looking_here c.loop-entry.invariant c.loop-entry-test.true (rw c.from-e.ensures at (sym c.has.ensures ∙ c.if-has.true)))

pub loop-entry-preserved : goal.loop-entry-preserved
loop-entry-preserved c = looking_more c.loop-entry.invariant c.loop-entry-test.true (rw c.from-e.ensures at (sym c.has.ensures ∙ c.if-has.false))

pub returns : goal.returns
returns c = looking_end c.loop-entry.invariant c.loop-entry-test.false
