use Prim.Native.Nat.{◌+◌, ◌%◌, ◌≤◌}
use mathlib.Core.List.{map}
use lib.ListN.{take}
use Rattle.token.specs.Wrote.{Wrote}
use Rattle.stylingwriter.proofs.writing.put_colour.Given as goal

abbrev pub invariant-loop-letter : goal.invariant-loop-letter
invariant-loop-letter l = (l.next ≤ l.at + l.letter-index) × Wrote l.initial.out l.out l.at l.next (map (λ b. b % 256) (take l.letter-index l.letter-items))
