use Prim.Native.Nat.{◌+◌, ◌*◌, ◌≤◌}
use mathlib.Core.Path.{◌≡◌, refl}
use native.Mathlib.Omega.{arith}
use Rattle.lines.proofs.Counting.{count_ten, count_other, count_more, block_most, count_end}
use Rattle.lines.proofs.walk.count.Goals as goal
use Rattle.lines.proofs.walk.count.Goals.{else-d-i-eq10, then-d-i-eq10}

pub loop-k-preserved : goal.loop-k-preserved
loop-k-preserved c =
    let block = c.count_block.ensures in
    let small : c.count_block.result ≤ 64 = block_most c.args.d.now (64 * c.loop-k.k) _ block in
    let next : 64 * (c.loop-k.k + 1) ≡ 64 * c.loop-k.k + 64 = omega arith in
    (omega (arith, small), rw (c.from-n.ensures, next) (count_more c.args.d.now (64 * c.loop-k.k) _ _ _ c.loop-k.invariant.1 block))

pub loop-i-preserved : goal.loop-i-preserved
loop-i-preserved c =
    let ten = count_ten c.args.d.now c.loop-i.i (c.loop-i.i + 1) c.loop-i.n _ (omega arith) refl c.loop-i.invariant.1 in
    let other = count_other c.args.d.now c.loop-i.i (c.loop-i.i + 1) c.loop-i.n _ (omega arith) refl c.loop-i.invariant.1 in
    (elim c.if-d-i-eq10.branch [ then-d-i-eq10 w ↦ rw w.n-is (omega arith, ten w.if-d-i-eq10.true) | else-d-i-eq10 w ↦ rw w.n-is (omega arith, other w.if-d-i-eq10.false) ])

pub returns : goal.returns
returns c = count_end c.args.d.now _ _ c.loop-i.invariant.1 (omega arith)
