use Prim.Native.Nat.{◌+◌, ◌-◌, ◌≤◌}
use mathlib.Core.Path.{◌≡◌}
use lib.ListN.{length, drop}
use Rattle.lines.specs.Lines.{first_line}
use Rattle.lines.proofs.walk.line_end.Given as goal

abbrev pub invariant-loop-e : goal.invariant-loop-e
invariant-loop-e l = (l.e ≤ length l.d) × (l.e + length (first_line (drop l.e l.d)) ≡ l.a + length (first_line (drop l.a l.d)))

abbrev pub decreases-loop-e : goal.decreases-loop-e
decreases-loop-e l = length l.d - l.e
