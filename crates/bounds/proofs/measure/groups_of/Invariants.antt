use mathlib.Core.Path.{◌≡◌}
use Rattle.writer.specs.Arrays.{upto, symbol_at}
use Rattle.bounds.specs.Boxes.{groups_of}
use Rattle.bounds.proofs.measure.groups_of.Given as goal

abbrev pub invariant-loop-i : goal.invariant-loop-i
invariant-loop-i l = l.groups ≡ groups_of l.sizes (upto (symbol_at l.symbols) l.i)
