use mathlib.Core.Path.{◌∙◌}
use native.Mathlib.Omega.{arith}
use Rattle.bounds.proofs.Halves.{half_exact}
use Rattle.geometry.specs.Geometry.{answered}
use Rattle.geometry.proofs.bounds_with.Goals as goal

pub returns : goal.returns
returns c =
    let g = c.args.groups in
    record {
      is = (λ i. record { number = 0; place = 0; groups = g; doubled = c.doubled_centre-doubled.result; centre = record { x = c.half-x.ensures i; y = c.half-y.ensures i } })
          ∙ (λ i. answered 0 0 g (c.doubled_centre-doubled.ensures.is i));
      exact = record { x = rw c.half-x.ensures (half_exact _ (omega arith)); y = rw c.half-y.ensures (half_exact _ (omega arith)) };
    }
