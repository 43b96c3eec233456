-- The law of the centre.
use Prim.Native.Nat.{ℕ, ◌≤◌}
use mathlib.Core.Path.{◌≡◌, refl}
use mathlib.Core.List.{List}
use lib.Dec.{lit<}
use Rattle.format.specs.Format.{All}
use Rattle.charset.specs.declared.Charset.{Charset}
use Rattle.token.specs.Result.{Result, refusal, done, and_then}
use Rattle.token.proofs.Checks.{and_then_done}
use Rattle.reader.specs.Signs.{sign_of}
use Rattle.sign.proofs.Packed.{sign_within}
use Rattle.bounds.specs.declared.groups.Groups.{Groups}
use Rattle.bounds.specs.Sizes.{measured}
use Rattle.bounds.proofs.Halves.{half_exact}
use Rattle.bounds.proofs.Limits.{doubled_small}
use Rattle.bounds.proofs.Measuring.{measures}
use Rattle.geometry.specs.Geometry.{bounds_as, bounds_of}
use Rattle.geometry.specs.Geometry.{Exact}
use Rattle.geometry.specs.GeometryLaws.{GeometryLaws}

pub bounds_exact : (set : Charset) (text sizes : List ℕ) → All (λ b. b ≤ 255) sizes → Exact (bounds_of set text sizes)
unfolding bounds_of
bounds_exact set text sizes bytes = go (and_then (sign_of set text) λ m. measured sizes m.symbols) refl
  where
    go : (r : Result Groups) → and_then (sign_of set text) (λ m. measured sizes m.symbols) ≡ r → Exact (bounds_as r)
    go (refusal number place) e = record { x = half_exact 0 (lit< tt); y = half_exact 0 (lit< tt) }
    go (done g) e =
        let read = and_then_done (sign_of set text) (λ m. measured sizes m.symbols) e in
        let m = read.0 in
        let small = doubled_small sizes bytes m.symbols (sign_within set text m read.1.0).valid.symbols in
        let small-g = rw (measures sizes m.symbols g read.1.1).groups at small in
        record { x = half_exact _ small-g.0; y = half_exact _ small-g.1 }

pub geometry_laws : GeometryLaws
geometry_laws = record { exact = bounds_exact }
