use Rattle.std.proofs.Common.{arith}
use Rattle.token.proofs.Handed.{handed}
use Rattle.verdict.proofs.Texts.{text_refused, sign_few, text_judged}
use Rattle.verdict.proofs.judging.judge_text.Goals as goal

pub returns-in_err-head : goal.returns-in_err-head
returns-in_err-head c = rw (handed _ _ c.from_residual.ensures.1) (text_refused _ _ _ _ c.read_into.ensures _ c.in_err-head.field-0.0 (grind arith))

pub judge-requires : goal.judge-requires
judge-requires c = sign_few _ _ _ _ c.read_into.ensures c.args.conditions.words.now c.in_ok-head.head (grind arith)

pub returns : goal.returns
returns c = text_judged _ _ _ _ c.read_into.ensures _ c.in_ok-head.head (grind arith) _ c.judge.ensures
