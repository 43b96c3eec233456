use mathlib.Core.Path.{◌∙◌}
use native.Mathlib.Omega.{arith}
use Rattle.lines.proofs.Ends.{end_ten, end_other, end_none, end_past}
use Rattle.lines.proofs.walk.line_end.Goals as goal

pub loop-e-preserved-else-passed-lt128 : goal.loop-e-preserved-else-passed-lt128
loop-e-preserved-else-passed-lt128 c =
    let passed = c.from-passed.ensures ∙ c.end_in_block.ensures in
    (omega (arith, passed), end_past c.args.d.now _ _ _ c.loop-e.invariant.1 passed)

pub returns-then-d-e-eq10 : goal.returns-then-d-e-eq10
returns-then-d-e-eq10 c = end_ten _ _ _ c.loop-e.invariant.1 c.loop-e-test.true c.if-d-e-eq10.true

pub loop-e-preserved : goal.loop-e-preserved
loop-e-preserved c = (omega arith, end_other _ _ _ c.loop-e.invariant.1 c.loop-e-test.true c.if-d-e-eq10.false)

pub returns : goal.returns
returns c = end_none _ _ _ c.loop-e.invariant.1 c.loop-e-test.false
