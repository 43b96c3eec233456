use mathlib.Core.Path.{sym, ◌∙◌}
use Rattle.mergesort.proofs.Merging.{merging_start, takes_second, takes_waiting, takes_last, merging_end}
use Rattle.mergesort.proofs.parts.merge_parts.Goals as goal
use Rattle.mergesort.proofs.parts.merge_parts.Goals.{then-j-list+else-comes_before, else-j-list}

pub loop-i-init : goal.loop-i-init
loop-i-init c = merging_start _ _ _ _ _ c.requires.0 c.requires.1 c.copy_front.ensures

pub loop-i-preserved-then-comes_before : goal.loop-i-preserved-then-comes_before
loop-i-preserved-then-comes_before c = takes_second c.loop-i.invariant c.loop-i-test.true c.if-j-list.true (sym c.comes_before.ensures ∙ c.if-comes_before.true)

pub loop-i-preserved : goal.loop-i-preserved
loop-i-preserved c = elim c.if-j-list.branch [
  | then-j-list+else-comes_before w ↦ takes_waiting c.loop-i.invariant c.loop-i-test.true w.if-j-list.true (sym w.comes_before.ensures ∙ w.if-comes_before.false)
  | else-j-list w ↦ takes_last c.loop-i.invariant c.loop-i-test.true w.if-j-list.false
]

pub returns : goal.returns
returns c = merging_end c.loop-i.invariant c.loop-i-test.false
