-- What the inner functions promise, as the code goes about it.
use Rattle.std.specs.Prelude.{ℕ, ◌<◌, ◌^◌, ◌≡◌, true, false, get_or, set}
use Rattle.format.specs.Format.{choose}
use Rattle.bounds.specs.declared.groups.Box.{Box}
use Rattle.bounds.specs.declared.groups.Groups.{Groups}
use Rattle.bounds.specs.declared.centre.Doubled.{Doubled}
use Rattle.bounds.specs.Boxes.{zero_box, grown, is_head, is_trunk}
use Rattle.bounds.specs.Centre.{doubled_of}

-- one group takes in a box
abbrev pub grown_at : Groups → ℕ → Box → Groups
grown_at g i b = record {
  boxes = set g.boxes i (choose (get_or g.present i false) (grown (get_or g.boxes i zero_box) b) b);
  present = set g.present i true;
}

-- the groups that a symbol belongs to take in its box
abbrev pub with_symbol : Groups → ℕ → Box → Groups
with_symbol g code b =
    choose (is_head code) (grown_at (grown_at (grown_at g 2 b) 1 b) 0 b)
    (choose (is_trunk code) (grown_at (grown_at g 2 b) 1 b) (grown_at g 2 b))

pub record Doubles (g : Groups) (r : Doubled) : Type 0 where
  pub is : r ≡ doubled_of g
  pub x : r.x < 2 ^ 17
  pub y : r.y < 2 ^ 17
