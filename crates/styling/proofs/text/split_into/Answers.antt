use mathlib.Core.Path.{sym}
use native.Mathlib.Omega.{arith}
use Rattle.styling.proofs.Judging.{dash_none, dash_some}
use Rattle.styling.proofs.Texts.{into_none, into_refused, into_split}
use Rattle.styling.proofs.Drafting.{refused_draft, dashed_draft}
use Rattle.styling.proofs.text.split_into.Goals as goal

pub returns-in_default : goal.returns-in_default
returns-in_default c =
    let v = into_none _ _ _ _ (dash_none _ _ c.first_dash.ensures c.in_default.is) c.undashed.ensures in record { sign = v; styling = refused_draft _ _ _ _ _ _ v }

pub returns-in-Ok : goal.returns-in-Ok
returns-in-Ok c =
    let d = (dash_some _ _ c.first_dash.ensures _ c.in-Some.is) in record { sign = into_split _ _ _ d.0 d.1 _ _ c.in-Ok.ensures _ _ _ c.styling_after.ensures; styling = dashed_draft _ _ _ _ _ _ _ (sym d.0) (omega (arith, d.1)) c.styling_after.ensures }

pub returns-in-Err : goal.returns-in-Err
returns-in-Err c =
    let d = (dash_some _ _ c.first_dash.ensures _ c.in-Some.is) in let v = into_refused _ _ _ d.0 d.1 _ _ c.in-Err.ensures _ c.undashed-in-Err.ensures in record { sign = v; styling = refused_draft _ _ _ _ _ _ v }
