use mathlib.Core.Path.{ap, ◌∙◌}
use Rattle.layout.specs.Layouts.{written_numbers}
use Rattle.halofret.proofs.stylings.halofret_write_styling.Goals as goal

pub returns : goal.returns
returns c = record { answer = c.written_numbers.ensures ∙ ap written_numbers c.write_styling.ensures.answer; memory = c.write_styling.ensures.memory }
