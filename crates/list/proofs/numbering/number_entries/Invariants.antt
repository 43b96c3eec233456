use Rattle.list.proofs.Loops.{Numbering}
use Rattle.list.proofs.numbering.number_entries.Given as goal

abbrev pub invariant-loop-e : goal.invariant-loop-e
invariant-loop-e l = Numbering l.initial.list l.n l.list l.e
