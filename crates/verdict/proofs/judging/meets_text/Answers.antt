use Rattle.token.proofs.Handed.{handed}
use Rattle.verdict.proofs.Texts.{sign_few, meeting_refused, meeting_judged}
use Rattle.verdict.proofs.judging.meets_text.Goals as goal

pub returns-in_err-sign : goal.returns-in_err-sign
returns-in_err-sign c = rw (handed _ _ c.from_residual.ensures.1) (meeting_refused _ _ _ _ c.read_into.ensures _ _ c.in_err-sign.was)

pub meets-requires : goal.meets-requires
meets-requires c = sign_few _ _ _ _ c.read_into.ensures c.args.conditions.words.now _ c.in_ok-sign.was

pub returns : goal.returns
returns c = meeting_judged _ _ _ _ c.read_into.ensures _ _ c.in_ok-sign.was _ c.meets.ensures
