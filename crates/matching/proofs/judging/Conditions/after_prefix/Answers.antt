use Rattle.matching.proofs.Rows.{prefix_asked, rows_asked}
use mathlib.Core.Path.{refl, ◌∙◌}
use Rattle.matching.proofs.judging.Conditions.after_prefix.Goals as goal

pub returns-then-self-ne-PRESENT : goal.returns-then-self-ne-PRESENT
returns-then-self-ne-PRESENT c = rows_asked _ _ c.if-self-ne-PRESENT.true _ c.after_rows.ensures

pub returns : goal.returns
returns c = c.then_some.ensures ∙ prefix_asked _ _ c.args.self.laid c.if-self-ne-PRESENT.false refl
