-- What is proved of boxes and centres.
use Rattle.std.specs.Prelude.{ℕ, ◌≤◌, ◌<◌, ◌^◌, ◌≡◌, List, ltb, length}
use Rattle.format.specs.Format.{All}
use Rattle.bounds.specs.declared.groups.Box.{Box}
use Rattle.bounds.specs.Boxes.{group_of}
use Rattle.bounds.specs.Centre.{half, IsHalf}

-- the box a lies within the box b
pub record Within (a b : Box) : Type 0 where
  pub left : b.left ≤ a.left
  pub top : b.top ≤ a.top
  pub right : a.right ≤ b.right
  pub bottom : a.bottom ≤ b.bottom

-- The box of a group is the tight one: the boxes of its symbols lie within it, and it lies within every box that holds them.
pub record Tight (l : List Box) : Type 0 where
  pub present : (group_of l).present ≡ ltb 0 (length l)
  pub holds : All (λ b. Within b (group_of l).box) l
  pub least : (c : Box) → 0 < length l → All (λ b. Within b c) l → Within (group_of l).box c

pub record BoundsLaws : Type 0 where
  pub tight : (l : List Box) → Tight l
  -- the half is exact, and twice it equals the whole number
  pub half : (n : ℕ) → n < 2 ^ 24 → IsHalf (half n) n
