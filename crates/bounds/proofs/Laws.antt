-- The laws of boxes and centres.
use Rattle.bounds.specs.BoundsLaws.{BoundsLaws}
use Rattle.bounds.proofs.Halves.{half_exact}
use Rattle.bounds.proofs.Tightness.{tight}

pub bounds_laws : BoundsLaws
bounds_laws = record { tight = tight; half = half_exact }
