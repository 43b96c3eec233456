use Rattle.linetable.proofs.Walking.{Walking}
use Rattle.linetable.proofs.table.walk_to.Given as goal

abbrev pub invariant-loop-line : goal.invariant-loop-line
invariant-loop-line l = Walking l.dict l.base l.e l.at l._line
