use mathlib.Core.Path.{sym, ap, ◌∙◌}
use Rattle.std.specs.Prelude.{Err}
use Rattle.token.proofs.Wrong.{is_wrong, not_wrong}
use Rattle.reader.proofs.Loops.{symbols_start, symbols-on, symbols_stop, symbols_end, symbols_refused}
use Rattle.reader.proofs.arrays.symbols_into.Goals as goal

pub loop-i-init : goal.loop-i-init
loop-i-init c = symbols_start _ _ _ _ c.requires.0 c.requires.1

pub loop-i-preserved : goal.loop-i-preserved
loop-i-preserved c =
    symbols-on _ _ _ _ _ _ _ c.loop-i.invariant _ _ (sym c.spatial_at.ensures ∙ c.in-Ok.is) c.spatial_size-size.ensures _
    (λ i. c.loop-i.symbols.prefix) c.put.ensures c.put-in-Ok.ensures c.put-in-Ok-2.ensures

pub returns-in-Err : goal.returns-in-Err
returns-in-Err c =
    symbols_stop _ _ _ _ _ _ _ c.loop-i.invariant
    (sym c.spatial_at.ensures ∙ c.in-Err.is ∙ ap Err (is_wrong _ _ c.if-is_wrong_at.ensures))

pub returns-in-Err-2 : goal.returns-in-Err-2
returns-in-Err-2 c =
    symbols_refused _ _ _ _ _ _ _ c.loop-i.invariant _ (sym c.spatial_at.ensures ∙ c.in-Err.is)
    (not_wrong _ _ c.if-is_wrong_at.ensures) c.loop-i-test.true

pub returns : goal.returns
returns c = symbols_end _ _ _ _ _ _ _ c.loop-i.invariant c.loop-i-test.false
