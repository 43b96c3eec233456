use Rattle.styling.proofs.Judging.{undashed_refused, undashed_whole}
use Rattle.styling.proofs.text.undashed.Goals as goal

pub returns-in-Ok : goal.returns-in-Ok
returns-in-Ok c =
    undashed_whole _ _ _ _ c.in-Ok.ensures

pub returns-in-Err : goal.returns-in-Err
returns-in-Err c =
    undashed_refused _ _ _ _ c.in-Err.ensures
