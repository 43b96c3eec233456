use Rattle.sign.proofs.Stepping.{Stepping}
use Rattle.sign.proofs.offsets.put_steps.Given as goal

abbrev pub invariant-loop-i : goal.invariant-loop-i
invariant-loop-i l = Stepping l.fn.places l.first l.size l.n l.places l.i
