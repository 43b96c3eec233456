use native.Mathlib.Omega.{arith}
use Rattle.lines.proofs.Starts.{Line, start_within, line_at}
use Rattle.lines.proofs.walk.start_from.Goals as goal

pub line_end-at-requires : goal.line_end-at-requires
line_end-at-requires c = omega (arith, start_within _ _ _ (omega arith) (omega arith) c.loop-i.invariant)

pub overflow_add-at : goal.overflow_add-at
overflow_add-at c =
    let here : Line c.args.d.now c.loop-i._i c.loop-i.at c.line_end-at.result = line_at _ _ _ (omega arith) (omega arith) c.loop-i.invariant _ c.line_end-at.ensures in
    omega (arith, here.high)

pub loop-i-preserved : goal.loop-i-preserved
loop-i-preserved c =
    let here : Line c.args.d.now c.loop-i._i c.loop-i.at c.line_end-at.result = line_at _ _ _ (omega arith) (omega arith) c.loop-i.invariant _ c.line_end-at.ensures in
    here.next
