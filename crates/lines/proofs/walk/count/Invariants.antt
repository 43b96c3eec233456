use Prim.Native.Nat.{◌+◌, ◌*◌, ◌≤◌}
use mathlib.Core.Path.{◌≡◌}
use lib.ListN.{drop}
use Rattle.lines.proofs.Counting.{count_of}
use Rattle.lines.proofs.walk.count.Given as goal

abbrev pub invariant-loop-k : goal.invariant-loop-k
invariant-loop-k l = (l.n ≤ 64 * l.k) × (count_of (drop 0 l.d) ≡ l.n + count_of (drop (64 * l.k) l.d))

abbrev pub invariant-loop-i : goal.invariant-loop-i
invariant-loop-i l = (l.n ≤ l.i) × (count_of (drop 0 l.d) ≡ l.n + count_of (drop l.i l.d))
