use mathlib.Core.Path.{◌∙◌}
use Rattle.linetable.proofs.Walking.{start_near, start_far}
use Rattle.linetable.proofs.table.Starts.of.Goals as goal

pub returns-then-offset-lt-FAR : goal.returns-then-offset-lt-FAR
returns-then-offset-lt-FAR c =
    let near = rw c.from-place.ensures at c.if-offset-lt-FAR.true in
    rw (c.from.ensures, c.from-place.ensures) (start_near _ _ _ _ near)

pub returns : goal.returns
returns c =
    let far = rw c.from-place.ensures at c.if-offset-lt-FAR.false in
    rw c.from-place.ensures at c.walk_to.ensures ∙ start_far _ _ _ _ far
