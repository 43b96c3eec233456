use mathlib.Core.Path.{◌∙◌}
use Rattle.halofret.proofs.Told.{told_query}
use Rattle.halofret.proofs.queries.halofret_read_query.Goals as goal

pub returns : goal.returns
returns c = rw (← c.edition_of.ensures, ← c.read.ensures) (c.told.ensures ∙ told_query _)
