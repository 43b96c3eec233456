use mathlib.Core.Path.{ap, ◌∙◌}
use Rattle.layout.specs.Dictionaries.{narrowed_numbers}
use Rattle.halofret.proofs.dictionaries.halofret_narrow_sorted.Goals as goal

pub returns : goal.returns
returns c = rw (← c.set_of.ensures, ← c.edition_of-edition.ensures) (record { answer = c.narrowed_numbers.ensures ∙ ap (λ p. narrowed_numbers p.0) c.narrow_sorted.ensures; memory = ap (λ p. p.1) c.narrow_sorted.ensures })
