use mathlib.Core.Path.{sym, ◌∙◌}
use Rattle.dictionary.proofs.Narrowings.{never_good}
use Rattle.dictionary.proofs.forms.InAnyOrderForm.refusal_of.Goals as goal

pub returns-in-None : goal.returns-in-None
returns-in-None c = never_good c.requires (sym c.in-None.is ∙ c.first_wrong_listed.ensures)
