use mathlib.Core.Path.{sym, ap, ◌∙◌}
use Rattle.std.specs.Prelude.{Err}
use Rattle.token.proofs.Wrong.{is_wrong, not_wrong}
use Rattle.reader.proofs.Loops.{prefix_start, prefix_on, prefix_stop, prefix_end, prefix_refused}
use Rattle.reader.proofs.arrays.prefix_into.Goals as goal

pub loop-i-init : goal.loop-i-init
loop-i-init c = prefix_start _ _ _ _ c.requires.0 c.requires.1

pub loop-i-preserved : goal.loop-i-preserved
loop-i-preserved c = prefix_on _ _ _ _ _ _ c.loop-i.invariant _ _ (sym c.prefix_symbol_at.ensures ∙ c.in-Ok.is) c.symbol_size-size.ensures _ c.put.ensures

pub returns-in-Err : goal.returns-in-Err
returns-in-Err c =
    prefix_stop _ _ _ _ _ _ c.loop-i.invariant
    (sym c.prefix_symbol_at.ensures ∙ c.in-Err.is ∙ ap Err (is_wrong _ _ c.if-is_wrong_at.ensures))

pub returns-in-Err-2 : goal.returns-in-Err-2
returns-in-Err-2 c =
    prefix_refused _ _ _ _ _ _ c.loop-i.invariant _ (sym c.prefix_symbol_at.ensures ∙ c.in-Err.is)
    (not_wrong _ _ c.if-is_wrong_at.ensures) c.loop-i-test.true

pub returns : goal.returns
returns c = prefix_end _ _ _ _ _ _ c.loop-i.invariant c.loop-i-test.false
