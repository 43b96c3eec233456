use mathlib.Core.Path.{refl}
use native.Mathlib.Omega.{arith}
use Rattle.stylinggrammar.specs.Styling.{background}
use Rattle.stylingreader.specs.Takings.{take_colour}
use Rattle.stylingreader.proofs.Chains.{part_absent, part_there}
use Rattle.stylingreader.proofs.Marks.{stands_room}
use Rattle.stylingreader.proofs.reading.background_at.Goals as goal

pub returns-then-not-stands : goal.returns-then-not-stands
returns-then-not-stands c = part_absent 71 background (take_colour 5) _ _ _ _ _ c.stands.ensures c.requires c.if-not-stands.true _ c.passed.ensures refl

pub background_at-requires : goal.background_at-requires
background_at-requires c = (stands_room _ _ _ _ c.stands.ensures c.if-not-stands.false, omega arith)

pub returns : goal.returns
returns c = part_there 71 background (take_colour 5) _ _ _ _ _ c.stands.ensures c.if-not-stands.false _ c.background_at.ensures
