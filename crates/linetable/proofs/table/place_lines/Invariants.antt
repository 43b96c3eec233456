use Rattle.linetable.proofs.Filling.{Filling}
use Rattle.linetable.proofs.table.place_lines.Given as goal

abbrev pub invariant-loop-before : goal.invariant-loop-before
invariant-loop-before l = Filling l.dict l.n l.bases l.offsets l.base l.at l.before
