-- What is proved of the centre that asking for boxes answers.
use Rattle.std.specs.Prelude.{ℕ, ◌≤◌, List}
use Rattle.format.specs.Format.{All}
use Rattle.charset.specs.declared.Charset.{Charset}
use Rattle.geometry.specs.Geometry.{bounds_of, Exact}

pub record GeometryLaws : Type 0 where
  -- Every answer is exact, a refusal too: a size list is bytes, so no doubled number is too great for an f32.
  pub exact : (set : Charset) (text sizes : List ℕ) → All (λ b. b ≤ 255) sizes → Exact (bounds_of set text sizes)
