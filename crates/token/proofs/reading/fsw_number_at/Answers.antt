use mathlib.Core.Path.{sym, ap, ◌∙◌}
use Rattle.std.specs.Prelude.{Err}
use Rattle.charset.specs.Tokens.{fsw_number}
use Rattle.token.proofs.Atomic.{atomic_right, atomic_wrong}
use Rattle.token.proofs.reading.fsw_number_at.Goals as goal

pub returns-in_default : goal.returns-in_default
returns-in_default c = atomic_right fsw_number _ _ _ c.three_at-number.ensures (λ p. c.in_default.not-Err _)

pub returns-in-TextWrong : goal.returns-in-TextWrong
returns-in-TextWrong c = atomic_wrong fsw_number _ _ _ _ c.three_at-number.ensures (c.in-Err.is ∙ ap Err c.in-TextWrong.is)

pub returns-in_default-refusal : goal.returns-in_default-refusal
returns-in_default-refusal c =
    atomic_right fsw_number _ _ _ (sym c.in-Err.is ∙ c.three_at-number.ensures) (λ p e. c.in_default-refusal.not-TextWrong p (cc e))
