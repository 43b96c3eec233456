use Prim.Native.Nat.{◌-◌}
use Rattle.prefixes.proofs.Comparing.{Comparing}
use Rattle.prefixes.proofs.order.words_before.Given as goal

abbrev pub invariant-loop-passed : goal.invariant-loop-passed
invariant-loop-passed l = Comparing l.set l.s l.i l.j l.x l.y (31 - l._passed)
