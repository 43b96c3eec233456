use mathlib.Core.Path.{sym, ap, ◌∙◌}
use lib.ListN.{set, get_or}
use mir.Syntax.{w64}
use mir.Val.{to_z, of_z}
use mir.Facts.{to_z-of_z}
use Rattle.std.specs.Prelude.{Err}
use Rattle.token.proofs.Handed.{handed}
use Rattle.moving.specs.Moves.{stays, moved_number}
use Rattle.moving.specs.Inner.{moved_axis}
use Rattle.moving.proofs.Axes.{was_inside, was_outside, map_none, map_more, one_leaves, none_left, one_stays}
use Rattle.moving.proofs.writing.move_axis.Goals as goal

pub returns-in_err-next : goal.returns-in_err-next
returns-in_err-next c =
    let a = c.args in
    let by = to_z w64 (of_z w64 a.by) in
    let left = was_outside (stays by (get_or a.values.now c.loop-i.i 0)) (moved_number by (get_or a.values.now c.loop-i.i 0)) c.in_err-next.field-0.0 (sym c.move_number-in-loop-i.ensures ∙ c.in_err-next.was) in
    handed _ _ c.from_residual-in_err-next.ensures.1
    ∙ ap Err left.1
    ∙ sym (one_leaves by a.most a.values.now a.n c.loop-i.i c.loop-i-test.true left.0)
    ∙ ap (λ z. moved_axis z a.most a.n a.values.now) (to_z-of_z c.ranges.by)

pub loop-i-init : goal.loop-i-init
loop-i-init c =
    let a = c.args in
    let by = to_z w64 (of_z w64 a.by) in
    let in_end = was_inside (stays by a.most) (moved_number by a.most) c.in_ok-end.end (sym c.move_number.ensures ∙ c.in_ok-end.was) in
    record { stay = none_left by a.most a.values.now in_end.0; next = sym (map_none _ _) }

pub loop-i-preserved : goal.loop-i-preserved
loop-i-preserved c =
    let a = c.args in
    let by = to_z w64 (of_z w64 a.by) in
    let i = c.loop-i.i in
    let in_next = was_inside (stays by (get_or a.values.now i 0)) (moved_number by (get_or a.values.now i 0)) c.in_ok-next.field-0 (sym c.move_number-in-loop-i.ensures ∙ c.in_ok-next.was) in
    record {
      stay = one_stays by a.most a.values.now i c.loop-i.invariant.stay in_next.0;
      next = (λ j. set (c.loop-i.invariant.next j) i (sym in_next.1 j)) ∙ map_more (moved_number by) i a.values.now;
    }
