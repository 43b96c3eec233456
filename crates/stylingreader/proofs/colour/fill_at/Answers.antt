use Rattle.stylingreader.proofs.Chains.{handed_part}
use Rattle.stylingreader.proofs.Details.{fill_absent, fill_fails, fill_there}
use Rattle.stylingreader.proofs.Marks.{stands_room}
use Rattle.stylingreader.proofs.colour.fill_at.Goals as goal

pub returns-then-not-stands : goal.returns-then-not-stands
returns-then-not-stands c = fill_absent _ _ _ _ c.requires.0 _ c.stands.ensures c.if-not-stands.true _ c.passed.ensures

pub colour_at-requires : goal.colour_at-requires
colour_at-requires c = (stands_room _ _ _ _ c.stands.ensures c.if-not-stands.false, c.requires.1)

pub returns-in_err-second : goal.returns-in_err-second
returns-in_err-second c = handed_part c.from_residual.ensures.1 (fill_fails _ _ _ _ c.requires.0 _ c.stands.ensures c.if-not-stands.false _ _ _ c.in_err-second.ensures)

pub returns : goal.returns
returns c = fill_there _ _ _ _ c.requires.0 _ c.stands.ensures c.if-not-stands.false _ _ c.in_ok-second.ensures
