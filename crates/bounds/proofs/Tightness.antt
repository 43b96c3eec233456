-- The box of a group is the least box that holds the boxes of its symbols.
use mathlib.Core.Path.{refl, sym}
use mathlib.Core.List.{List, [], ◌∷◌}
use native.Mathlib.Omega.{arith}
use lib.ListN.{length}
use borrow.Author.Tests.{lt-ltb}
use Rattle.format.specs.Format.{All}
use Rattle.bounds.specs.declared.groups.Box.{Box}
use Rattle.bounds.specs.Boxes.{grown, grown_all}
use Rattle.bounds.specs.BoundsLaws.{Within, Tight}

within_same : (a : Box) → Within a a
within_same a = record { left = omega arith; top = omega arith; right = omega arith; bottom = omega arith }

grown_left : (a b c : Box) → Within (grown a b) c → Within a c
grown_left a b c h = record { left = omega arith; top = omega arith; right = omega arith; bottom = omega arith }

grown_right : (a b c : Box) → Within (grown a b) c → Within b c
grown_right a b c h = record { left = omega arith; top = omega arith; right = omega arith; bottom = omega arith }

grown_least : (a b c : Box) → Within a c → Within b c → Within (grown a b) c
grown_least a b c h k = record { left = omega arith; top = omega arith; right = omega arith; bottom = omega arith }

grown_holds : (a : Box) (l : List Box) → All (λ b. Within b (grown_all a l)) (a ∷ l)
unfolding grown_all
grown_holds a [] = (within_same a, tt)
grown_holds a (b ∷ l) =
    let h = grown_holds (grown a b) l in
    (grown_left a b (grown_all (grown a b) l) h.0, (grown_right a b (grown_all (grown a b) l) h.0, h.1))

all_least : (a : Box) (l : List Box) (c : Box) → Within a c → All (λ b. Within b c) l → Within (grown_all a l) c
unfolding grown_all
all_least a [] c h k = h
all_least a (b ∷ l) c h k = all_least (grown a b) l c (grown_least a b c h k.0) k.1

pub tight : (l : List Box) → Tight l
tight [] = record { present = refl; holds = tt; least = λ c h k. absurd (omega arith) }
tight (a ∷ l) = record { present = sym (lt-ltb 0 (length (a ∷ l)) (omega arith)); holds = grown_holds a l; least = λ c h k. all_least a l c k.0 k.1 }
