use Rattle.token.proofs.Handed.{handed}
use Rattle.querypart.proofs.Lists.{single_found, single_fails}
use Rattle.querypart.proofs.alternatives.Part.one_into.Goals as goal

pub returns-in_err-item : goal.returns-in_err-item
returns-in_err-item c = rw (handed _ _ c.from_residual.ensures.1) (single_fails _ _ _ _ _ _ _ c.item_at.ensures _ c.in_err-item.was)

pub returns : goal.returns
returns c = single_found _ _ _ _ _ _ _ c.item_at.ensures c.requires.0 _ _ c.in_ok-item.was _ c.put_three.ensures _ c.note.ensures
