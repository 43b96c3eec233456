use Prim.Native.Nat.{◌/◌, ◌<◌}
use mathlib.Core.Path.{sym, ◌∙◌}
use lib.ListN.{length}
use Rattle.list.proofs.Loops.{compacting_start, compacting_inside, compacting_kept, compacting_dropped}
use Rattle.list.proofs.bits.compact.Goals as goal
use Rattle.list.proofs.bits.compact.Goals.{else-has, then-has}

pub loop-i-init : goal.loop-i-init
loop-i-init c = compacting_start _ _ _

pub has-requires : goal.has-requires
has-requires c = rw c.from.ensures (compacting_inside c.loop-i.invariant c.loop-i-test.true c.requires.0 (λ e. e / 8 < length c.args.bits.now) c.requires.1)

pub loop-i-preserved : goal.loop-i-preserved
loop-i-preserved c = (elim c.if-has.branch [ then-has w ↦ rw (w.list-is, w.k-is) (compacting_kept c.loop-i.invariant c.loop-i-test.true c.requires.0 (rw c.from.ensures at (sym c.has.ensures ∙ w.if-has.true))) | else-has w ↦ rw (w.list-is, w.k-is) (compacting_dropped c.loop-i.invariant c.loop-i-test.true c.requires.0 (rw c.from.ensures at (sym c.has.ensures ∙ w.if-has.false))) ])
