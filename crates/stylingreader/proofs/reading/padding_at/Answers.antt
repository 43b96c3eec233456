use mathlib.Core.Path.{refl}
use native.Mathlib.Omega.{arith}
use Rattle.stylinggrammar.specs.Styling.{two_digits}
use Rattle.stylingreader.specs.Takings.{take_number}
use Rattle.stylingreader.proofs.Chains.{part_absent, part_there}
use Rattle.stylingreader.proofs.Marks.{stands_room}
use Rattle.stylingreader.proofs.reading.padding_at.Goals as goal

pub returns-then-not-stands : goal.returns-then-not-stands
returns-then-not-stands c = part_absent 80 two_digits (take_number 1 1) _ _ _ _ _ c.stands.ensures c.requires c.if-not-stands.true _ c.passed.ensures refl

pub number_at-requires : goal.number_at-requires
number_at-requires c = (stands_room _ _ _ _ c.stands.ensures c.if-not-stands.false, omega arith)

pub returns : goal.returns
returns c = part_there 80 two_digits (take_number 1 1) _ _ _ _ _ c.stands.ensures c.if-not-stands.false _ c.number_at.ensures
