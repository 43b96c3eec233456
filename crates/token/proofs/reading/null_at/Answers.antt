use native.Mathlib.Omega.{arith}
use Rattle.charset.specs.Tokens.{base}
use Rattle.token.proofs.Told.{Told, hands_on}
use Rattle.token.proofs.Keys.{base_told, base_fails, turn_fails, symbol_told}
use Rattle.token.proofs.reading.null_at.Goals as goal

pub returns-in_err-three_at : goal.returns-in_err-three_at
returns-in_err-three_at c =
    hands_on _ _ _ _ c.from_residual.ensures.1 c.in_err-three_at.was
    (base_fails 0 0 0 (λ p. 0) (λ code. (0, 0)) _ (omega arith) (omega arith) _ _ _ c.three_at.ensures)

pub returns-in_err-two_at : goal.returns-in_err-two_at
returns-in_err-two_at c =
    let base_is : let a = c.args in Told 3 (base 0 0) a.s.now a.at _ = base_told 0 0 (omega arith) (omega arith) _ _ _ _ c.three_at.ensures c.in_ok-three_at.was in
    hands_on _ _ _ _ c.from_residual-in_err-two_at.ensures.1 c.in_err-two_at.was
    (turn_fails 0 0 0 (λ p. 0) (λ code. (0, 0)) _ (omega arith) (omega arith) _ _ _ _ base_is c.two_at.ensures)

pub returns : goal.returns
returns c =
    let base_is : let a = c.args in Told 3 (base 0 0) a.s.now a.at _ = base_told 0 0 (omega arith) (omega arith) _ _ _ _ c.three_at.ensures c.in_ok-three_at.was in
    symbol_told 0 0 0 (λ p. 0) (λ code. (0, 0)) _ (omega arith) (omega arith) _ _ _ _ _ base_is
    c.two_at.ensures c.in_ok-two_at.was
