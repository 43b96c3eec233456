use mathlib.Core.Path.{sym, ap, ◌∙◌}
use Rattle.styling.specs.Writing.{same_numbers}
use Rattle.styling.proofs.Entries.{read_as, limits_not, not_read_as}
use Rattle.styling.proofs.records.reads_as.Goals as goal

pub returns-then-is_within_limits : goal.returns-then-is_within_limits
returns-then-is_within_limits c =
    read_as _ _ _ _ c.in-Ok.ensures (sym c.is_within_limits.ensures ∙ c.if-is_within_limits.true) _
    (c.eq.ensures ∙ ap (same_numbers c.args.w.now) c.as_slice-again.ensures)

pub returns-else-is_within_limits : goal.returns-else-is_within_limits
returns-else-is_within_limits c = c.if-is_within_limits.false ∙ limits_not _ _ _ _ c.in-Ok.ensures (sym c.is_within_limits.ensures ∙ c.if-is_within_limits.false)

pub returns-in-Err : goal.returns-in-Err
returns-in-Err c = not_read_as _ _ _ _ c.in-Err.ensures
