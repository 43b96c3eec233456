use Prim.Native.Nat.{◌-◌}
use lib.ListN.{length}
use Rattle.stylingreader.proofs.Rows.{RowsInv}
use Rattle.stylingreader.proofs.styles.styles_at.Given as goal

abbrev pub invariant-loop-to : goal.invariant-loop-to
invariant-loop-to g l = RowsInv g.S.Style.zoomed l.s l.at l.from l.all l.initial.to l.to

abbrev pub decreases-loop-to : goal.decreases-loop-to
decreases-loop-to g l = length l.s - l.all.place
