use Prim.Native.Nat.{◌+◌}
use native.Mathlib.Omega.{arith}
use Rattle.linetable.proofs.Filling.{Opened, filling_start, opened_new, opened_same, filling_within, filling_high, filling-more, filling_end}
use Rattle.linetable.proofs.table.place_lines.Goals as goal
use Rattle.linetable.proofs.table.place_lines.Goals.{else-e-eq0, then-e-eq0}

pub loop-before-init : goal.loop-before-init
loop-before-init c = filling_start _ _ _ _ c.requires.2

pub line_end-at-requires : goal.line_end-at-requires
line_end-at-requires c = omega (arith, filling_within c.loop-before.invariant c.requires.1 c.loop-before-test.true)

pub overflow_add-at : goal.overflow_add-at
overflow_add-at c = omega (arith, filling_high c.loop-before.invariant c.requires.1 c.loop-before-test.true _ c.line_end-at.ensures)

pub loop-before-preserved : goal.loop-before-preserved
loop-before-preserved c =
    let opened : Opened c.args.dict.now c.if-e-eq0.base c.loop-before.at (c.loop-before.before + 1) = (elim c.if-e-eq0.branch [ then-e-eq0 w ↦ rw w.base-is (opened_new c.loop-before.invariant w.if-e-eq0.true) | else-e-eq0 w ↦ rw w.base-is (opened_same c.loop-before.invariant w.if-e-eq0.false) ]) in
    filling-more c.loop-before.invariant c.requires.1 c.loop-before-test.true c.requires.0 _ (opened) _ (rw c.from.ensures at c.min.ensures) _ c.line_end-at.ensures

pub returns : goal.returns
returns c = filling_end c.loop-before.invariant c.requires.1 c.loop-before-test.false
