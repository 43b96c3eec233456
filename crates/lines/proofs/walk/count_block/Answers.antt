use Prim.Native.Nat.{◌+◌}
use native.Mathlib.Omega.{arith}
use Rattle.lines.proofs.Counting.{count_ten, count_other, block_is}
use Rattle.lines.proofs.walk.count_block.Goals as goal
use Rattle.lines.proofs.walk.count_block.Goals.{else-d-at-eq10, then-d-at-eq10}

pub loop-j-preserved : goal.loop-j-preserved
loop-j-preserved c =
    let ten = count_ten c.args.d.now (c.args.at + c.loop-j.j) (c.args.at + (c.loop-j.j + 1)) c.loop-j.n _ (omega arith) (omega arith) c.loop-j.invariant.1 in
    let other = count_other c.args.d.now (c.args.at + c.loop-j.j) (c.args.at + (c.loop-j.j + 1)) c.loop-j.n _ (omega arith) (omega arith) c.loop-j.invariant.1 in
    (elim c.if-d-at-eq10.branch [ then-d-at-eq10 w ↦ rw w.n-is (omega arith, ten w.if-d-at-eq10.true) | else-d-at-eq10 w ↦ rw w.n-is (omega arith, other w.if-d-at-eq10.false) ])

pub returns : goal.returns
returns c = block_is c.args.d.now c.args.at c.loop-j.j _ (omega arith) c.loop-j.invariant.1
