use mathlib.Core.Path.{refl}
use Rattle.matching.proofs.Rows.{judged_start, judged_on, rows_not, rows_all}
use Rattle.matching.proofs.judging.Conditions.judge_rows.Goals as goal

pub loop-j-init : goal.loop-j-init
loop-j-init c = judged_start _ _ _ _ c.requires.0

pub returns-in_default : goal.returns-in_default
returns-in_default c = rows_not _ _ _ _ _ _ c.loop-j.invariant refl c.loop-j-test.true c.in_default.ensures

pub loop-j-preserved : goal.loop-j-preserved
loop-j-preserved c = judged_on _ _ _ _ _ _ c.loop-j.invariant c.loop-j-test.true c.in-Some.ensures c.end-at.ensures

pub returns : goal.returns
returns c = rows_all _ _ _ _ _ _ c.loop-j.invariant refl c.loop-j-test.false
