use mathlib.Core.Path.{refl}
use Rattle.stylingreader.proofs.Strings.{colorize_absent, colorize_there}
use Rattle.stylingreader.proofs.reading.colorize_at.Goals as goal

pub returns-then-not-stands : goal.returns-then-not-stands
returns-then-not-stands c = colorize_absent _ _ _ _ _ _ c.stands.ensures c.requires c.if-not-stands.true c.passed.ensures refl

pub returns : goal.returns
returns c = colorize_there _ _ _ _ _ _ c.stands.ensures c.if-not-stands.false c.passed-2.ensures c.put.ensures
