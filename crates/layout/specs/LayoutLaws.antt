-- What is proved of answers as they lie in lent memory.
use Rattle.std.specs.Prelude.{ℕ, ◌≤◌, ◌≡◌, List, Float, drop}
use Rattle.format.specs.Format.{All, Pairwise}
use Rattle.charset.specs.declared.Charset.{Charset}
use Rattle.bounds.specs.Centre.{IsHalf}
use Rattle.geometry.specs.Geometry.{bounds_of}
use Rattle.layout.specs.Layouts.{bounds_numbers, centre_left}

pub record LayoutLaws : Type 0 where
  -- Where boxes are not refused, the lent centre holds two floats, each exactly half of its number among the last two of the 19. A size
  -- list is bytes.
  pub centre : (set : Charset) (text sizes : List ℕ) (before : List Float) → All (λ b. b ≤ 255) sizes → (bounds_of set text sizes).number ≡ 0
      → Pairwise IsHalf (centre_left before (bounds_of set text sizes)) (drop 17 (bounds_numbers (bounds_of set text sizes)))
