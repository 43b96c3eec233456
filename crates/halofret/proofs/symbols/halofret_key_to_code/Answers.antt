use mathlib.Core.Path.{ap, ◌∙◌}
use Rattle.layout.specs.Layouts.{code_numbers}
use Rattle.halofret.proofs.symbols.halofret_key_to_code.Goals as goal

pub returns : goal.returns
returns c = c.code_numbers.ensures ∙ ap code_numbers c.key_to_code.ensures
