use lib.ListN.{take}
use Rattle.list.specs.Bits.{bit_of}
use Rattle.list.proofs.Marking.{Looking}
use Rattle.list.proofs.bits.first_of.Given as goal

abbrev pub invariant-loop-entry : goal.invariant-loop-entry
invariant-loop-entry l = Looking (bit_of l.bits) (take l.n l.list) l.entry-index
