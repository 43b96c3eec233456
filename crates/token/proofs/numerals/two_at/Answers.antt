use Prim.Native.Nat.{min}
use mathlib.Core.List.{[]}
use mathlib.Core.Path.{ap, sym, ◌∙◌}
use native.Mathlib.Omega.{arith}
use Rattle.token.specs.Digits.{one_digit}
use Rattle.token.proofs.Told.{hands_on}
use Rattle.token.proofs.Digits.{digits_of_kind, First, Rest, head_fails, head_told, rest_told}
use Rattle.token.proofs.numerals.two_at.Goals as goal

pub returns-in_err-a : goal.returns-in_err-a
returns-in_err-a g c =
    hands_on _ _ _ _ c.from_residual.ensures.1 c.in_err-a.was
    (head_fails (digits_of_kind _ _ _ g.met.D.Digit.strict) _ [] _ _ c.requires.1 c.requires.2 _ _ _ c.digit_at.ensures)

pub overflow_mul-from : goal.overflow_mul-from
overflow_mul-from g c =
    omega (arith, (head_told (digits_of_kind _ _ _ g.met.D.Digit.strict) _ [] _ _ c.requires.1 c.requires.2 _ _ _ _ c.digit_at.ensures c.in_ok-a.was).under)

pub returns-in_err-b : goal.returns-in_err-b
returns-in_err-b g c =
    let first : let a = c.args in First (one_digit g.D.Digit.value g.D.Digit.byte) a.p a.lo a.hi a.s.now a.at c.in_ok-a.a = head_told (digits_of_kind _ _ _ g.met.D.Digit.strict) _ [] _ _ c.requires.1 c.requires.2 _ _ _ _ c.digit_at.ensures c.in_ok-a.was in
    let rest : let a = c.args in Rest (one_digit g.D.Digit.value g.D.Digit.byte) a.p [] a.lo a.hi a.s.now a.at c.in_ok-a.a c.digit_at-2.result = rest_told (digits_of_kind _ _ _ g.met.D.Digit.strict) _ [] _ _ c.requires.1 c.requires.2 _ _ _ _ _ _ first c.saturating_sub-least.ensures (c.min-most.ensures ∙ ap (min _) c.saturating_sub.ensures) c.digit_at-2.ensures in
    hands_on _ _ _ _ c.from_residual-in_err-b.ensures.1 c.in_err-b.was rest.fails

pub overflow_add-result : goal.overflow_add-result
overflow_add-result g c =
    let first : let a = c.args in First (one_digit g.D.Digit.value g.D.Digit.byte) a.p a.lo a.hi a.s.now a.at c.in_ok-a.a = head_told (digits_of_kind _ _ _ g.met.D.Digit.strict) _ [] _ _ c.requires.1 c.requires.2 _ _ _ _ c.digit_at.ensures c.in_ok-a.was in
    let rest : let a = c.args in Rest (one_digit g.D.Digit.value g.D.Digit.byte) a.p [] a.lo a.hi a.s.now a.at c.in_ok-a.a c.digit_at-2.result = rest_told (digits_of_kind _ _ _ g.met.D.Digit.strict) _ [] _ _ c.requires.1 c.requires.2 _ _ _ _ _ _ first c.saturating_sub-least.ensures (c.min-most.ensures ∙ ap (min _) c.saturating_sub.ensures) c.digit_at-2.ensures in
    omega (arith, rest.fits _ c.in_ok-b.was)

pub returns : goal.returns
returns g c =
    let first : let a = c.args in First (one_digit g.D.Digit.value g.D.Digit.byte) a.p a.lo a.hi a.s.now a.at c.in_ok-a.a = head_told (digits_of_kind _ _ _ g.met.D.Digit.strict) _ [] _ _ c.requires.1 c.requires.2 _ _ _ _ c.digit_at.ensures c.in_ok-a.was in
    let rest : let a = c.args in Rest (one_digit g.D.Digit.value g.D.Digit.byte) a.p [] a.lo a.hi a.s.now a.at c.in_ok-a.a c.digit_at-2.result = rest_told (digits_of_kind _ _ _ g.met.D.Digit.strict) _ [] _ _ c.requires.1 c.requires.2 _ _ _ _ _ _ first c.saturating_sub-least.ensures (c.min-most.ensures ∙ ap (min _) c.saturating_sub.ensures) c.digit_at-2.ensures in
    rest.value _ c.in_ok-b.was
