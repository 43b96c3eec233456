-- The law of the lent centre.
use mathlib.Core.Path.{◌≡◌}
use mathlib.Core.List.{List}
use borrow.Author.Tests.{eq-eqb}
use lib.Ieee.{Float}
use lib.ListN.{drop}
use Rattle.format.specs.Format.{Pairwise}
use Rattle.bounds.specs.Centre.{IsHalf}
use Rattle.geometry.specs.Geometry.{Bounds, Exact}
use Rattle.geometry.proofs.Laws.{geometry_laws}
use Rattle.layout.specs.Layouts.{bounds_numbers, centre_left}
use Rattle.layout.specs.LayoutLaws.{LayoutLaws}

halves_left : (before : List Float) (b : Bounds) → Exact b → b.number ≡ 0 → Pairwise IsHalf (centre_left before b) (drop 17 (bounds_numbers b))
halves_left before b e z = rw (eq-eqb b.number 0 z) (e.x, (e.y, tt))

pub layout_laws : LayoutLaws
layout_laws = record { centre = λ set text sizes before bytes z. halves_left before _ (geometry_laws.exact set text sizes bytes) z }
