use Prim.Native.Nat.{◌+◌, ◌≤◌}
use mathlib.Core.Path.{◌≡◌}
use lib.ListN.{drop}
use Rattle.lines.proofs.Counting.{count_of}
use Rattle.lines.proofs.walk.count_block.Given as goal

abbrev pub invariant-loop-j : goal.invariant-loop-j
invariant-loop-j l = (l.n ≤ l.j) × (count_of (drop l.at l.d) ≡ l.n + count_of (drop (l.at + l.j) l.d))
