use Rattle.std.proofs.Common.{arith}
use Rattle.token.proofs.Handed.{handed}
use Rattle.reader.proofs.Texts.{sign_inside, text_refused, text_followed, text_read}
use Rattle.reader.proofs.arrays.text_into.Goals as goal

pub returns-in_err-head : goal.returns-in_err-head
returns-in_err-head c = rw (handed _ _ c.from_residual.ensures.1) (text_refused _ _ _ _ c.sign_into.ensures _ c.in_err-head.was)

pub left_over-requires : goal.left_over-requires
left_over-requires c = sign_inside _ _ _ _ c.sign_into.ensures _ _ c.in_ok-head.was

pub returns-in_err-left_over : goal.returns-in_err-left_over
returns-in_err-left_over c =
    rw (handed _ _ c.from_residual-in_err-left_over.ensures.1)
    (text_followed _ _ _ _ c.sign_into.ensures _ _ c.in_ok-head.was c.left_over.result c.left_over.ensures c.in_err-left_over.field-0.0 (grind arith))

pub returns : goal.returns
returns c = text_read _ _ _ _ c.sign_into.ensures _ _ c.in_ok-head.was c.left_over.result c.left_over.ensures tt (grind arith)
