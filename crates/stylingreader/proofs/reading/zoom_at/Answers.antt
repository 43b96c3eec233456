use mathlib.Core.Path.{refl}
use Rattle.stylinggrammar.specs.Styling.{decimal}
use Rattle.stylingreader.specs.Takings.{take_zoom}
use Rattle.stylingreader.proofs.Chains.{part_absent, part_there}
use Rattle.stylingreader.proofs.Marks.{stands_room}
use Rattle.stylingreader.proofs.reading.zoom_at.Goals as goal

pub returns-then-not-stands : goal.returns-then-not-stands
returns-then-not-stands c = part_absent 90 decimal (take_zoom 2) _ _ _ _ _ c.stands.ensures c.requires c.if-not-stands.true _ c.passed.ensures refl

pub zoom_at-requires : goal.zoom_at-requires
zoom_at-requires c = stands_room _ _ _ _ c.stands.ensures c.if-not-stands.false

pub returns : goal.returns
returns c = part_there 90 decimal (take_zoom 2) _ _ _ _ _ c.stands.ensures c.if-not-stands.false _ c.zoom_at.ensures
