use mathlib.Core.Path.{sym, ◌∙◌}
use Rattle.list.proofs.Sets.{writing_start, writing_room, writing_in, writing_out}
use Rattle.list.proofs.bits.write_entries.Goals as goal
use Rattle.list.proofs.bits.write_entries.Goals.{else-has, then-has}

pub loop-e-init : goal.loop-e-init
loop-e-init c = writing_start _ _ _

pub bounds-list-k : goal.bounds-list-k
bounds-list-k c = writing_room c.loop-e.invariant c.loop-e-test.true c.requires.2 (sym c.has.ensures ∙ c.if-has.true)

pub loop-e-preserved : goal.loop-e-preserved
loop-e-preserved c = (elim c.if-has.branch [ then-has w ↦ rw (w.list-is, w.k-is) (writing_in c.loop-e.invariant c.loop-e-test.true c.requires.2 (sym c.has.ensures ∙ w.if-has.true)) | else-has w ↦ rw (w.list-is, w.k-is) (writing_out c.loop-e.invariant c.loop-e-test.true (sym c.has.ensures ∙ w.if-has.false)) ])
