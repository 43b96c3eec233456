use mathlib.Core.Path.{ap, ◌∙◌}
use Rattle.layout.specs.Layouts.{written_numbers}
use Rattle.halofret.proofs.symbols.halofret_code_to_key.Goals as goal

pub returns : goal.returns
returns c = let e = c.code_to_key.ensures in record { answer = c.written_numbers.ensures ∙ ap written_numbers e.answer; memory = e.memory }
