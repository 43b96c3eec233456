-- Document 01, "Boxes, shifting, centring", with the axes of document 02, Q-4: the centre of each axis, doubled and as an f32.
use Rattle.std.specs.Prelude.{ℕ, ◌+◌, ◌≡◌, false, pos, get_or, Float}
use Rattle.std.specs.Float.{binary32}
use Rattle.std.specs.Float.Ieee.{round, add, of_int}
use Rattle.std.specs.Float.Ieee.Exact.{HasValue}
use Rattle.format.specs.Format.{choose}
use Rattle.bounds.specs.declared.groups.Box.{Box}
use Rattle.bounds.specs.declared.groups.Groups.{Groups}
use Rattle.bounds.specs.declared.centre.Doubled.{Doubled}
use Rattle.bounds.specs.Boxes.{zero_box}

-- the groups by their places
abbrev pub head : ℕ
head = 0

abbrev pub head_with_trunk : ℕ
head_with_trunk = 1

abbrev pub all : ℕ
all = 2

pub data Axis : Type 0 where
  horizontal : Axis
  vertical : Axis

-- WHICH GROUP SERVES WHICH AXIS (document 02, Q-4; the types hcenter and vcenter of document 002)
abbrev pub serving : Axis → ℕ
serving horizontal = head
serving vertical = head_with_trunk

abbrev pub box_of : Groups → ℕ → Box
box_of g group = get_or g.boxes group zero_box

-- the box of a group that has a symbol, otherwise the whole box
abbrev pub chosen_box : Groups → ℕ → Box
chosen_box g group = choose (get_or g.present group false) (box_of g group) (box_of g all)

-- twice the middle of each axis's box: a whole number
abbrev pub doubled_of : Groups → Doubled
doubled_of g = record {
  x = (chosen_box g (serving horizontal)).left + (chosen_box g (serving horizontal)).right;
  y = (chosen_box g (serving vertical)).top + (chosen_box g (serving vertical)).bottom;
}

-- The f32 nearest to n / 2. It is n / 2 itself (the law `half`, in BoundsLaws): so no other f32 is the centre.
abbrev pub half : ℕ → Float
half n = round binary32 false n 2

-- r is exactly n / 2, and r + r, added as f32, is the f32 of the whole number n
pub record IsHalf (r : Float) (n : ℕ) : Type 0 where
  pub value : HasValue r false n 2
  pub twice : add binary32 r r ≡ of_int binary32 (pos n)
