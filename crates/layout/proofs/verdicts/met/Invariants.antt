use Rattle.std.specs.Prelude.{◌≡◌, ◌∷◌, ◌+◌, length, take}
use Rattle.layout.proofs.verdicts.met.Given as goal

abbrev pub invariant-loop-i : goal.invariant-loop-i
invariant-loop-i l = (length l.all ≡ 36) × (take (4 + l.i) l.all ≡ 0 ∷ 0 ∷ 1 ∷ 0 ∷ take l.i l.witnesses)
