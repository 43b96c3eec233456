use native.Mathlib.Omega.{arith}
use Rattle.token.proofs.Wrong.{is_wrong, not_wrong}
use Rattle.querypart.proofs.Others.{others-grow, others-on, others-stop, others-bad, others_end}
use Rattle.querypart.proofs.alternatives.Part.others_into.Goals as goal

pub loop-others-smaller : goal.loop-others-smaller
loop-others-smaller c = let g = others-grow _ _ _ _ _ _ _ _ _ _ _ c.loop-others.invariant _ _ _ c.other_into.ensures _ c.in-Ok.is in omega (arith, g.0, g.1)

pub loop-others-preserved : goal.loop-others-preserved
loop-others-preserved c = others-on _ _ _ _ _ _ _ _ _ _ _ c.loop-others.invariant _ _ _ c.other_into.ensures _ c.in-Ok.is c.slot-here.ensures _ c.or-others.ensures

pub returns-in-Err : goal.returns-in-Err
returns-in-Err c = others-stop _ _ _ _ _ _ _ _ _ _ _ c.loop-others.invariant _ _ _ c.other_into.ensures _ c.in-Err.is (is_wrong _ _ c.if-is_wrong_at.ensures)

pub returns-in-Err-2 : goal.returns-in-Err-2
returns-in-Err-2 c = others-bad _ _ _ _ _ _ _ _ _ _ _ c.loop-others.invariant _ _ _ c.other_into.ensures c.loop-others-test.true _ c.in-Err.is (not_wrong _ _ c.if-is_wrong_at.ensures)

pub returns-after-loop-others : goal.returns-after-loop-others
returns-after-loop-others c = others_end _ _ _ _ _ _ _ _ _ _ _ c.loop-others.invariant c.loop-others-test.false
