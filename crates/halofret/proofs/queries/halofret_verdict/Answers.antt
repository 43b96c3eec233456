use mathlib.Core.Path.{ap, ◌∙◌}
use Rattle.layout.specs.Layouts.{verdict_numbers}
use Rattle.halofret.proofs.queries.halofret_verdict.Goals as goal

pub returns : goal.returns
returns c = rw (← c.set_of.ensures, ← c.edition_of-edition.ensures) (c.verdict_numbers.ensures ∙ ap verdict_numbers c.verdict.ensures)
