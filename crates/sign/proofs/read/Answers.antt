use Rattle.std.proofs.Common.{◌∙◌, ap}
use Rattle.std.specs.Prelude.{Ok}
use Rattle.sign.specs.Reading.{as_reading}
use Rattle.sign.proofs.Readings.{laid, reading_done}
use Rattle.sign.proofs.read.Goals as goal

pub packed-requires : goal.packed-requires
packed-requires c = (laid _ _ _ _ c.read_into.ensures _ c.in_ok-head.was).counted

pub returns : goal.returns
returns c = ap (λ s. as_reading (Ok s)) c.packed.ensures ∙ reading_done _ _ _ _ c.read_into.ensures _ c.in_ok-head.was
