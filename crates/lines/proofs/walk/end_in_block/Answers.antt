use Prim.Native.Nat.{◌+◌, ◌<◌, min}
use lib.ListN.{length}
use native.Mathlib.Omega.{arith}
use Rattle.lines.proofs.Ends.{Met, met_ten, met_other}
use Rattle.lines.proofs.walk.end_in_block.Goals as goal
use Rattle.lines.proofs.walk.end_in_block.Goals.{else-d-at-eq10, then-d-at-eq10}

pub loop-j-preserved : goal.loop-j-preserved
loop-j-preserved c =
    let d = c.args.d.now in
    let j = c.loop-j.j in
    let l : c.args.at + j < length d = omega arith in
    let met : Met d c.args.at (j + 1) (min c.if-d-at-eq10.ten c.loop-j.first) =
    (elim c.if-d-at-eq10.branch [ then-d-at-eq10 w ↦ rw w.ten-is (met_ten d _ j _ l (omega arith) c.loop-j.invariant.1 w.if-d-at-eq10.true) | else-d-at-eq10 w ↦ rw w.ten-is (met_other d _ j _ l (omega arith) c.loop-j.invariant.1 w.if-d-at-eq10.false) ])
    in
    (omega arith, rw c.min-first.ensures met)
