use mathlib.Core.Path.{ap, ◌∙◌}
use Rattle.layout.specs.Layouts.{written_numbers}
use Rattle.halofret.proofs.drawing.halofret_centred.Goals as goal

pub returns : goal.returns
returns c = rw (← c.set_of.ensures) (record { answer = c.written_numbers.ensures ∙ ap written_numbers c.centred.ensures.answer; memory = c.centred.ensures.memory })
