use Prim.Native.Nat.{◌≤◌}
use Rattle.lines.proofs.Ends.{Met}
use Rattle.lines.proofs.walk.end_in_block.Given as goal

abbrev pub invariant-loop-j : goal.invariant-loop-j
invariant-loop-j l = (l.first ≤ 128) × Met l.d l.at l.j l.first
