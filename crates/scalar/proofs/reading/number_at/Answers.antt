use mathlib.Core.Path.{refl}
use native.Mathlib.Omega.{arith}
use Rattle.token.proofs.Told.{hands_on}
use Rattle.scalar.proofs.Characters.{lead_fails}
use Rattle.scalar.proofs.Numbers.{Number, next_fails, number}
use Rattle.scalar.proofs.reading.number_at.Goals as goal

pub returns-in_err-digit_at : goal.returns-in_err-digit_at
returns-in_err-digit_at c =
    hands_on _ _ _ _ c.from_residual.ensures.1 c.in_err-digit_at.was
    (lead_fails 120594 250 749 0 refl refl (omega arith) _ _ _ c.digit_at.ensures)

pub returns-in_err-digit_at-2 : goal.returns-in_err-digit_at-2
returns-in_err-digit_at-2 c =
    hands_on _ _ _ _ c.from_residual-in_err-digit_at-2.ensures.1 c.in_err-digit_at-2.was
    (next_fails _ _ _ _ c.digit_at.ensures c.in_ok-digit_at.was _ c.digit_at-2.ensures)

pub returns-in_err-n : goal.returns-in_err-n
returns-in_err-n c =
    let rest : let a = c.args in Number a.s.now a.at c.two_at.result = number _ _ _ _ c.digit_at.ensures c.in_ok-digit_at.was _ _ c.digit_at-2.ensures c.in_ok-digit_at-2.was _ c.two_at.ensures in
    hands_on _ _ _ _ c.from_residual-in_err-n.ensures.1 c.in_err-n.was rest.fails

pub overflow_sub-result : goal.overflow_sub-result
overflow_sub-result c =
    let rest : let a = c.args in Number a.s.now a.at c.two_at.result = number _ _ _ _ c.digit_at.ensures c.in_ok-digit_at.was _ _ c.digit_at-2.ensures c.in_ok-digit_at-2.was _ c.two_at.ensures in
    omega (arith, rest.least _ c.in_ok-n.was)

pub returns : goal.returns
returns c =
    let rest : let a = c.args in Number a.s.now a.at c.two_at.result = number _ _ _ _ c.digit_at.ensures c.in_ok-digit_at.was _ _ c.digit_at-2.ensures c.in_ok-digit_at-2.was _ c.two_at.ensures in
    rest.value _ c.in_ok-n.was
