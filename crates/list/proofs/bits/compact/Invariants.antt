use Rattle.list.specs.Bits.{bit_of}
use Rattle.list.proofs.Loops.{Compacting}
use Rattle.list.proofs.bits.compact.Given as goal

abbrev pub invariant-loop-i : goal.invariant-loop-i
invariant-loop-i l = Compacting l.initial.list l.n (bit_of l.bits) l.list l.k l.i
