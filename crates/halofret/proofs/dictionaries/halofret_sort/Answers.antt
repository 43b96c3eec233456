use mathlib.Core.Path.{ap, ◌∙◌}
use Rattle.layout.specs.Dictionaries.{sorted_numbers}
use Rattle.halofret.proofs.Told.{told_sort}
use Rattle.halofret.proofs.dictionaries.halofret_sort.Goals as goal

pub returns : goal.returns
returns c = rw (← c.set_of.ensures) (record { answer = c.told.ensures ∙ told_sort _ ∙ ap sorted_numbers c.sort.ensures.answer; memory = c.sort.ensures.memory; second = c.sort.ensures.second })
