use Rattle.std.specs.Prelude.{◌≡◌, length}
use lib.Seq.{paste}
use Rattle.styling.proofs.put_rest.Given as goal

abbrev pub invariant-loop-i : goal.invariant-loop-i
invariant-loop-i l = (length l.out ≡ length l.initial.out) × (l.out ≡ paste l.initial.out l.at l.s l.i)
