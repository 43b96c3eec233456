use mathlib.Core.Path.{◌≡◌}
use Rattle.lines.specs.Lines.{line_start}
use Rattle.lines.proofs.walk.start_from.Given as goal

abbrev pub invariant-loop-i : goal.invariant-loop-i
invariant-loop-i l = l.at ≡ line_start l.d l._i
