use mathlib.Core.List.{[], ◌∷◌}
use Rattle.token.proofs.Units.{byte_cut, byte_below, byte_above, byte_within}
use Rattle.token.proofs.numerals.digit_at.Goals as goal
use Rattle.token.proofs.numerals.digit_at.Goals.{then-d-lo-via-then-d-lo, then-d-lo-via-else-d-lo+then-hi-d}

pub returns-then-s-at : goal.returns-then-s-at
returns-then-s-at g c = byte_cut g.D.Digit.value (λ d. g.D.Digit.byte d ∷ []) _ _ _ _ c.if-s-at.true

pub returns-then-d-lo : goal.returns-then-d-lo
returns-then-d-lo g c = elim c.then-d-lo.branch [
  | then-d-lo-via-then-d-lo w ↦
      byte_below g.D.Digit.value (λ d. g.D.Digit.byte d ∷ []) _ _ _ _ _ c.if-s-at.false c.value_of-d.ensures w.if-d-lo.true
  | then-d-lo-via-else-d-lo+then-hi-d w ↦
      byte_above g.D.Digit.value (λ d. g.D.Digit.byte d ∷ []) _ _ _ _ _ c.if-s-at.false c.value_of-d.ensures w.if-d-lo.false w.if-hi-d.true
]

pub returns : goal.returns
returns g c =
    byte_within g.D.Digit.value (λ d. g.D.Digit.byte d ∷ []) _ _ _ _ _ c.if-s-at.false c.value_of-d.ensures
    c.if-d-lo.false c.if-hi-d.false
