use mathlib.Core.Path.{◌≡◌}
use mathlib.Core.Bool.{true}
use mathlib.Core.List.{◌∷◌}
use Rattle.format.specs.Format.{every}
use Rattle.writer.specs.Arrays.{upto, at}
use Rattle.moving.specs.Moves.{stays, moved_number}
use Rattle.moving.specs.Inner.{map_first}
use Rattle.moving.proofs.writing.move_axis.Given as goal

abbrev pub invariant-loop-i : goal.invariant-loop-i
invariant-loop-i l = record {
  stay : every (stays l.fn.by) (l.most ∷ upto (at l.values) l.i) ≡ true;
  next : l.next ≡ map_first (moved_number l.fn.by) l.i l.values;
}
