use Rattle.std.proofs.Common.{arith}
use Rattle.sign.proofs.Stepping.{stepping_on, stepping_all}
use Rattle.sign.proofs.offsets.put_steps.Goals as goal

pub loop-i-preserved : goal.loop-i-preserved
loop-i-preserved c = stepping_on _ _ _ _ _ _ c.loop-i.invariant (omega (arith, c.loop-i.invariant.size_kept)) _ c.step.ensures

pub returns : goal.returns
returns c = stepping_all _ _ _ _ _ _ c.loop-i.invariant (omega (arith, c.loop-i.invariant.size_kept))
