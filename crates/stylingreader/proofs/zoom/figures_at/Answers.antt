use mathlib.Core.Path.{sym, ◌∙◌}
use Rattle.stylingreader.proofs.Zooms.{figures_on, figures_stop, figures_over}
use Rattle.stylingreader.proofs.zoom.figures_at.Goals as goal

pub returns-then-not-is_ascii_digit : goal.returns-then-not-is_ascii_digit
returns-then-not-is_ascii_digit g c = figures_stop _ _ _ _ _ c.loop-i.invariant c.loop-i-test.true (sym c.is_ascii_digit.ensures.value ∙ c.if-not-is_ascii_digit.true) _ c.figures_end.ensures

pub loop-i-preserved : goal.loop-i-preserved
loop-i-preserved g c = figures_on _ _ _ _ _ c.loop-i.invariant c.loop-i-test.true (sym c.is_ascii_digit.ensures.value ∙ c.if-not-is_ascii_digit.false) _ _ c.from.ensures c.with_digit-v.ensures

pub returns : goal.returns
returns g c = figures_over _ _ _ _ _ c.loop-i.invariant c.loop-i-test.false _ c.figures_end-2.ensures
