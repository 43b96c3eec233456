use Prim.Native.Nat.{◌+◌, ◌-◌}
use mathlib.Core.Path.{◌≡◌}
use native.Mathlib.Omega.{arith}
use Rattle.prefixes.proofs.Comparing.{comparing_differ, comparing_over, comparing_on, comparing_end}
use Rattle.prefixes.proofs.order.words_before.Goals as goal

pub returns-then-a-b : goal.returns-then-a-b
returns-then-a-b c = comparing_differ c.loop-passed.invariant _ _ (omega arith) c.word_at-a.ensures.is c.word_at-b.ensures.is c.if-a-b.true

pub returns-then-a-eq0 : goal.returns-then-a-eq0
returns-then-a-eq0 c = comparing_over c.loop-passed.invariant _ _ (omega arith) c.word_at-a.ensures.is c.word_at-b.ensures.is c.if-a-b.false c.if-a-eq0.true

pub loop-passed-preserved : goal.loop-passed-preserved
loop-passed-preserved c =
    let z : 31 - c.loop-passed._passed - 1 ≡ 31 - (c.loop-passed._passed + 1) = omega arith in
    rw (← z) (comparing_on c.loop-passed.invariant _ _ (omega arith) c.word_at-a.ensures.is c.word_at-b.ensures.is _ c.symbol_size-size.ensures c.if-a-b.false c.if-a-eq0.false)

pub returns : goal.returns
returns c = comparing_end c.loop-passed.invariant (omega arith)
