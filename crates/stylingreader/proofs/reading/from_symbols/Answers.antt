use mathlib.Core.Path.{refl}
use Rattle.stylinggrammar.specs.Styling.{symbols}
use Rattle.stylingreader.specs.Takings.{take_symbols}
use Rattle.stylingreader.proofs.Chains.{part_absent, part_there}
use Rattle.stylingreader.proofs.Marks.{stands_room}
use Rattle.stylingreader.proofs.reading.from_symbols.Goals as goal

pub returns-then-not-stands : goal.returns-then-not-stands
returns-then-not-stands c = part_absent 45 symbols take_symbols _ _ _ _ _ c.stands.ensures c.requires c.if-not-stands.true _ c.passed.ensures refl

pub symbols_at-requires : goal.symbols_at-requires
symbols_at-requires c = stands_room _ _ _ _ c.stands.ensures c.if-not-stands.false

pub returns : goal.returns
returns c = part_there 45 symbols take_symbols _ _ _ _ _ c.stands.ensures c.if-not-stands.false _ c.symbols_at.ensures
