-- What the inner function promises that makes the answer.
use Rattle.std.specs.Prelude.{Ok, ◌≡◌}
use Rattle.token.specs.Result.{done}
use Rattle.bounds.specs.declared.groups.Groups.{Groups}
use Rattle.geometry.specs.declared.Bounds.{Bounds as Bounded}
use Rattle.geometry.specs.Geometry.{bounds_as, as_bounds, Exact}

pub record Bounding (g : Groups) (r : Bounded) : Type 0 where
  pub is : as_bounds (Ok r) ≡ bounds_as (done g)
  pub exact : Exact (as_bounds (Ok r))
