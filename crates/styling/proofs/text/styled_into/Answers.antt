use native.Mathlib.Omega.{arith}
use Rattle.styling.proofs.Texts.{dash_there, into_dash}
use Rattle.styling.proofs.Drafting.{dashed_draft}
use Rattle.styling.proofs.text.styled_into.Goals as goal

pub returns-in-Ok : goal.returns-in-Ok
returns-in-Ok c =
    let v = c.in-Ok.ensures in record { sign = into_dash _ _ _ _ _ v c.if-at-s.true c.if-s-at-eq45.true _ _ _ c.styling_after.ensures; styling = dashed_draft _ _ _ _ _ _ _ (dash_there _ _ _ _ _ v c.if-at-s.true c.if-s-at-eq45.true) (omega arith) c.styling_after.ensures }
