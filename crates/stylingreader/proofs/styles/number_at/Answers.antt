use native.Mathlib.Omega.{arith}
use mathlib.Core.Path.{sym, ◌∙◌}
use Rattle.stylingreader.proofs.Chains.{handed_part}
use Rattle.stylingreader.proofs.Rows.{number_told, number_read, number_fails}
use Rattle.stylingreader.proofs.styles.number_at.Goals as goal

pub returns-in_err-n : goal.returns-in_err-n
returns-in_err-n c = handed_part c.from_residual.ensures.1 (number_fails _ _ _ _ _ _ _ (sym c.two_at.ensures ∙ c.in_err-n.was))

pub overflow_add-more : goal.overflow_add-more
overflow_add-more c = omega (arith, (number_told _ _ _ (sym c.two_at.ensures ∙ c.in_ok-n.was)).valid.1)

pub returns : goal.returns
returns c = number_read _ _ _ _ _ _ _ (sym c.two_at.ensures ∙ c.in_ok-n.was) _ c.passed.ensures c.put.ensures
