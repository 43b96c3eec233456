use mathlib.Core.Path.{ap, ◌∙◌}
use Rattle.layout.specs.Layouts.{written_numbers}
use Rattle.halofret.proofs.stylings.halofret_transcribe_styled.Goals as goal

pub returns : goal.returns
returns c = rw (← c.set_of.ensures) (record { answer = c.written_numbers.ensures ∙ ap written_numbers c.transcribe_styled.ensures.answer; memory = c.transcribe_styled.ensures.memory })
