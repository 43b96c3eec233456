use mathlib.Core.Path.{ap, sym, ◌∙◌}
use Rattle.layout.specs.Layouts.{centre_left}
use Rattle.geometry.specs.Geometry.{as_bounds}
use Rattle.halofret.proofs.Left.{when_refused}
use Rattle.halofret.proofs.drawing.halofret_boxes.Goals as goal

pub returns-in-Ok : goal.returns-in-Ok
returns-in-Ok c =
    rw (← c.set_of.ensures, ← c.boxes-b.ensures.answer) (record { answer = c.bounds_numbers.ensures; memory = sym (ap (λ r. centre_left c.args.centre.now (as_bounds r)) c.in-Ok.is) })

pub returns-in_default : goal.returns-in_default
returns-in_default c =
    let left = when_refused c.in_default.field-0 _ c.args.centre.now in
    rw (← c.set_of.ensures, ← c.boxes-b.ensures.answer)
    (record { answer = c.bounds_numbers.ensures; memory = left ∙ sym (ap (λ r. centre_left c.args.centre.now (as_bounds r)) c.in_default.is) })
