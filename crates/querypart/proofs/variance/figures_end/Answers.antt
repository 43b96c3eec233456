use mathlib.Core.Path.{refl, ◌∙◌}
use native.Mathlib.Omega.{arith}
use Rattle.token.proofs.Handed.{handed}
use Rattle.querypart.proofs.Figures.{no_figure, figured_most, figured_past, figured_fails, figured_ends, figured_more, figured_digit}
use Rattle.querypart.proofs.variance.figures_end.Goals as goal

pub loop-i-init : goal.loop-i-init
loop-i-init c = no_figure refl refl

pub returns-in_err-n : goal.returns-in_err-n
returns-in_err-n c = handed _ _ c.from_residual.ensures.1 ∙ figured_fails _ _ _ _ c.loop-i.invariant c.loop-i-test.true _ _ c.digit_at.ensures c.in_err-n.was

pub overflow_mul-n : goal.overflow_mul-n
overflow_mul-n c = omega (arith, figured_most _ _ _ _ c.loop-i.invariant c.loop-i-test.true)

pub overflow_add-n : goal.overflow_add-n
overflow_add-n c = omega (arith, figured_most _ _ _ _ c.loop-i.invariant c.loop-i-test.true, figured_digit _ c.args.at _ _ _ c.digit_at.ensures c.in_ok-n.was)

pub returns-then-s-i : goal.returns-then-s-i
returns-then-s-i c = figured_ends _ _ _ _ c.loop-i.invariant c.loop-i-test.true _ _ c.digit_at.ensures c.in_ok-n.was c.if-s-i.true

pub loop-i-preserved : goal.loop-i-preserved
loop-i-preserved c = figured_more _ _ _ _ c.loop-i.invariant c.loop-i-test.true _ _ c.digit_at.ensures c.in_ok-n.was c.if-s-i.false

pub returns : goal.returns
returns c = figured_past _ _ _ _ c.loop-i.invariant c.loop-i-test.false
