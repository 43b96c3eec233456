use mathlib.Core.Path.{◌∙◌}
use native.Mathlib.Omega.{arith}
use Rattle.stylingreader.proofs.Chains.{handed_part}
use Rattle.stylingreader.proofs.Marks.{stands_room}
use Rattle.stylingreader.proofs.Rows.{rows_stop, rows_fails, rows-fall, rows_on}
use Rattle.stylingreader.proofs.styles.styles_at.Goals as goal

pub style_at-requires : goal.style_at-requires
style_at-requires g c = (stands_room _ _ _ _ c.stands.ensures c.loop-to-test.true, omega (arith, c.row_of.ensures))

pub returns-in_err-one : goal.returns-in_err-one
returns-in_err-one g c = handed_part c.from_residual.ensures.1 (rows_fails _ _ _ _ _ _ _ c.loop-to.invariant _ (c.LETTER.ensures ∙ g.met.S.Style.lettered) _ c.stands.ensures c.loop-to-test.true _ _ _ c.in_err-one.ensures _)

pub loop-to-smaller : goal.loop-to-smaller
loop-to-smaller g c = rows-fall _ _ _ _ _ _ _ c.loop-to.invariant _ (c.LETTER.ensures ∙ g.met.S.Style.lettered) _ c.stands.ensures c.loop-to-test.true _ _ _ c.in_ok-one.ensures _ c.joined.ensures

pub loop-to-preserved : goal.loop-to-preserved
loop-to-preserved g c = rows_on _ _ _ _ _ _ _ c.loop-to.invariant _ (c.LETTER.ensures ∙ g.met.S.Style.lettered) _ c.stands.ensures c.loop-to-test.true _ _ _ c.in_ok-one.ensures c.row_of.ensures c.style_at.auto.to _ c.min.ensures _ c.joined.ensures

pub returns : goal.returns
returns g c = rows_stop _ _ _ _ _ _ _ c.loop-to.invariant _ (c.LETTER.ensures ∙ g.met.S.Style.lettered) _ c.stands.ensures c.loop-to-test.false
