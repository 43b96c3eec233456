use mir.Facts.{to_z-of_z}
use mathlib.Core.Path.{ap, ◌∙◌}
use Rattle.layout.specs.Layouts.{written_numbers}
use Rattle.halofret.proofs.drawing.halofret_shift.Goals as goal

pub returns : goal.returns
returns c =
    let w = rw (to_z-of_z c.ranges.dx, to_z-of_z c.ranges.dy) at c.shift.ensures in
    rw (← c.set_of.ensures) (record { answer = c.written_numbers.ensures ∙ ap written_numbers w.answer; memory = w.memory })
