use Rattle.list.proofs.Sets.{Adding}
use Rattle.list.proofs.bits.add_rising.Given as goal

abbrev pub invariant-loop-entry : goal.invariant-loop-entry
invariant-loop-entry l = Adding l.list l.n l.count l.initial.bits l.bits l.last l.entry-index
