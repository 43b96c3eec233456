use mathlib.Core.Path.{ap, ◌∙◌}
use Rattle.layout.specs.Dictionaries.{searched_numbers}
use Rattle.halofret.proofs.dictionaries.halofret_search.Goals as goal

pub returns : goal.returns
returns c = rw (← c.set_of.ensures, ← c.edition_of-edition.ensures) (record { answer = c.searched_numbers.ensures ∙ ap searched_numbers c.search.ensures.answer; memory = c.search.ensures.memory })
