use mathlib.Core.List.{[], ◌∷◌}
use native.Mathlib.Omega.{arith}
use Rattle.token.proofs.Units.{byte_cut, byte_other, byte_within}
use Rattle.token.proofs.reading.byte_at.Goals as goal

pub returns-then-s-at : goal.returns-then-s-at
returns-then-s-at c = byte_cut (λ a. a) (λ a. a ∷ []) _ _ _ _ c.if-s-at.true

pub returns-then-s-at-2 : goal.returns-then-s-at-2
returns-then-s-at-2 c = byte_other _ _ _ c.if-s-at.false c.if-s-at-2.true

pub returns : goal.returns
returns c = byte_within (λ a. a) (λ a. a ∷ []) _ _ _ _ _ c.if-s-at.false (omega arith) (omega arith) (omega arith)
