use Rattle.part.proofs.Spelling.{second_sure}
use Rattle.part.proofs.quick_fsw.second.Goals as goal

pub returns : goal.returns
returns c = second_sure _ _ _ c.requires c.if-s-at-ne120.false c.number.ensures
