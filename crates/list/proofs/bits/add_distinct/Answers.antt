use mathlib.Core.Path.{sym, ◌∙◌}
use native.Mathlib.Omega.{arith}
use Rattle.list.proofs.Marking.{marking_short, marking_start, marking_zero, marking_high, marking-twice, marking-more, marking_end}
use Rattle.list.proofs.bits.add_distinct.Goals as goal
use Rattle.list.proofs.bits.add_distinct.Goals.{then-zero-via-then-zero, then-zero-via-else-zero+then-count-e, then-zero-via-else-zero+else-count-e+then-has}

pub returns-then-list-n : goal.returns-then-list-n
returns-then-list-n c = marking_short _ _ _ _ c.if-list-n.true

pub loop-i-init : goal.loop-i-init
loop-i-init c = marking_start _ _ _ _ c.if-list-n.false (omega arith) c.requires.1

pub returns-then-zero : goal.returns-then-zero
returns-then-zero c =
    elim c.then-zero.branch [
      | then-zero-via-then-zero w ↦ marking_zero c.loop-i.invariant c.loop-i-test.true (rw c.from-e.ensures at w.if-zero.true)
      | then-zero-via-else-zero+then-count-e w ↦ marking_high c.loop-i.invariant c.loop-i-test.true (rw c.from-e.ensures at w.if-count-e.true)
      | then-zero-via-else-zero+else-count-e+then-has w ↦
          marking-twice c.loop-i.invariant c.loop-i-test.true (rw c.from-e.ensures at w.if-zero.false) (rw c.from-e.ensures at w.if-count-e.false) (rw c.from-e.ensures at (sym w.has.ensures ∙ w.if-has.true))
    ]

pub loop-i-preserved : goal.loop-i-preserved
loop-i-preserved c =
    let free = rw c.from-e.ensures at (sym c.has.ensures ∙ c.if-has.false) in
    rw (c.add.ensures, c.from-e.ensures) (marking-more c.loop-i.invariant c.loop-i-test.true (rw c.from-e.ensures at c.if-zero.false) (rw c.from-e.ensures at c.if-count-e.false) free)

pub returns : goal.returns
returns c = marking_end c.loop-i.invariant c.loop-i-test.false
