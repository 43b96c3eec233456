use mathlib.Core.Path.{sym, ap, ◌∙◌}
use native.Mathlib.Omega.{arith}
use borrow.Author.Tests.{eqb-true, eqb-false}
use Rattle.std.specs.Prelude.{Err}
use Rattle.token.proofs.Wrong.{is_wrong, not_wrong}
use Rattle.reader.proofs.Prefixes.{prefix_absent, prefix_empty, prefix_cut}
use Rattle.reader.proofs.arrays.leading_prefix.Goals as goal

pub returns-then-is_empty : goal.returns-then-is_empty
returns-then-is_empty c = prefix_empty _ _ _ (omega (arith, eqb-true _ _ (sym c.if-is_empty.ensures))) c.requires

pub returns-in-Err : goal.returns-in-Err
returns-in-Err c = prefix_absent _ _ _ (sym c.marker_at.ensures ∙ c.in-Err.is ∙ ap Err (is_wrong _ _ c.if-is_wrong_at.ensures)) c.requires

pub returns-in-Err-2 : goal.returns-in-Err-2
returns-in-Err-2 c = prefix_cut _ _ _ _ (sym c.marker_at.ensures ∙ c.in-Err.is) (not_wrong _ _ c.if-is_wrong_at.ensures) (omega (arith, eqb-false _ _ (sym c.if-is_empty.ensures)))
