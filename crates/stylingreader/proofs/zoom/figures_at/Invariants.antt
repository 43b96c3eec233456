use Rattle.stylingreader.proofs.Zooms.{FiguresInv}
use Rattle.stylingreader.proofs.zoom.figures_at.Given as goal

abbrev pub invariant-loop-i : goal.invariant-loop-i
invariant-loop-i g l = FiguresInv g.F.Figures.decimals l.s l.at l.i l.v
