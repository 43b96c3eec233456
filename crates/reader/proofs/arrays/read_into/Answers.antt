use Rattle.token.proofs.Handed.{handed}
use Rattle.reader.proofs.Limits.{read_refused, read_limited}
use Rattle.reader.proofs.arrays.read_into.Goals as goal

pub returns-in_err-head : goal.returns-in_err-head
returns-in_err-head c = rw (handed _ _ c.from_residual.ensures.1) (read_refused _ _ _ _ c.text_into.ensures _ c.in_err-head.was)

pub returns : goal.returns
returns c = read_limited _ _ _ _ c.text_into.ensures _ _ c.in_ok-head.was c.within_limits.ensures
