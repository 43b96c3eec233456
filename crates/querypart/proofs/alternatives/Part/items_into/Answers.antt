use lib.Dec.{ltb}
use mathlib.Core.Bool.{◌||◌}
use mathlib.Core.Logic.{inl, inr}
use mathlib.Core.Path.{ap, ◌∙◌}
use native.Mathlib.Omega.{arith}
use Rattle.token.proofs.Wrong.{is_wrong, not_wrong}
use Rattle.querypart.proofs.Leaves.{either, crowd}
use Rattle.querypart.proofs.Rows.{slot_room, items-grow, items-on, items-stop, items-bad, items_end}
use Rattle.querypart.proofs.alternatives.Part.items_into.Goals as goal
use Rattle.querypart.proofs.alternatives.Part.items_into.Goals.{then-items, else-items}

pub loop-items-smaller : goal.loop-items-smaller
loop-items-smaller c = let g = items-grow _ _ _ _ _ _ _ _ _ _ _ _ c.loop-items.invariant _ _ _ c.row_into.ensures _ c.in-Ok.is in omega (arith, g.0, g.1)

pub loop-items-preserved : goal.loop-items-preserved
loop-items-preserved c =
    items-on _ _ _ _ _ _ _ _ _ _ _ _ c.loop-items.invariant _ _ _ c.row_into.ensures _ c.in-Ok.is c.row_slot-here.ensures
    (slot_room _ _ _ (let z = c.loop-items.invariant.walked.size in omega (arith, c.requires.1)) c.row_slot-here.ensures) _ c.or-items.ensures _
    (either c.loop-items.items.crowded (ltb 8 c.in-Ok.read.count) _ (elim c.if-items.branch [ then-items w ↦ inl (w.if-items.true, w.items-is) | else-items w ↦ inr (w.if-items.false, w.items-is) ])
    ∙ ap (λ t. c.loop-items.items.crowded || t) (crowd c.in-Ok.read.count)) _ c.min.ensures

pub returns-in-Err : goal.returns-in-Err
returns-in-Err c = items-stop _ _ _ _ _ _ _ _ _ _ _ _ c.loop-items.invariant _ _ _ c.row_into.ensures _ c.in-Err.is (is_wrong _ _ c.if-is_wrong_at.ensures)

pub returns-in-Err-2 : goal.returns-in-Err-2
returns-in-Err-2 c = items-bad _ _ _ _ _ _ _ _ _ _ _ _ c.loop-items.invariant _ _ _ c.row_into.ensures c.loop-items-test.true _ c.in-Err.is (not_wrong _ _ c.if-is_wrong_at.ensures) c.requires.2

pub returns-after-loop-items : goal.returns-after-loop-items
returns-after-loop-items c = items_end _ _ _ _ _ _ _ _ _ _ _ _ c.loop-items.invariant c.loop-items-test.false
