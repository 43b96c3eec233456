use Rattle.list.proofs.Marking.{Marking}
use Rattle.list.proofs.bits.add_distinct.Given as goal

abbrev pub invariant-loop-i : goal.invariant-loop-i
invariant-loop-i l = Marking l.list l.n l.count l.initial.bits l.bits l.i
