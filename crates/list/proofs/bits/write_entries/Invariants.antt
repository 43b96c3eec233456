use Rattle.list.specs.Bits.{bit_of}
use Rattle.list.proofs.Sets.{Writing}
use Rattle.list.proofs.bits.write_entries.Given as goal

abbrev pub invariant-loop-e : goal.invariant-loop-e
invariant-loop-e l = Writing l.initial.list (bit_of l.bits) l.n l.list l.k l.e
