use Rattle.querypart.proofs.Figures.{Figured}
use Rattle.querypart.proofs.variance.figures_end.Given as goal

abbrev pub invariant-loop-i : goal.invariant-loop-i
invariant-loop-i l = Figured l.s l.at l.i l.n
