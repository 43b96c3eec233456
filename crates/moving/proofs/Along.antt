-- Boxes move along with their symbols: a number m is n moved by u - d where m + d ≡ n + u.
use Prim.Native.Nat.{ℕ, zero, suc, ◌+◌, ◌<◌, min, max}
use mathlib.Core.Path.{◌≡◌, refl}
use mathlib.Core.Bool.{Bool, true, false, ◌||◌, false≢true}
use mathlib.Core.List.{List, [], ◌∷◌, map}
use native.Mathlib.Omega.{arith}
use lib.IntN.{sub_ℕ}
use lib.ListN.{length}
use Rattle.format.specs.Format.{choose, keep, every}
use Rattle.grammar.specs.Sign.{Spatial}
use Rattle.bounds.specs.declared.groups.Box.{Box}
use Rattle.bounds.specs.Boxes.{width_of, height_of, symbol_box, grown, grown_all, Group, group_of, is_head, is_trunk, group_in, groups_of}
use Rattle.bounds.specs.Centre.{chosen_box}
use Rattle.moving.specs.Moves.{stays, moved_symbol}
use Rattle.moving.proofs.Numbers.{stays_along}
use Rattle.moving.proofs.Signs.{all_first}

min_along : (u d a b p q : ℕ) → p + d ≡ a + u → q + d ≡ b + u → min p q + d ≡ min a b + u
min_along u d a b p q h k = omega arith

max_along : (u d a b p q : ℕ) → p + d ≡ a + u → q + d ≡ b + u → max p q + d ≡ max a b + u
max_along u d a b p q h k = omega arith

size_along : (u d a p w : ℕ) → p + d ≡ a + u → p + w + d ≡ a + w + u
size_along u d a p w h = omega arith

-- by u - d across and by v - e down
module _ (u d v e : ℕ) where
  pub record BoxAlong (b c : Box) : Type 0 where
    pub left : c.left + d ≡ b.left + u
    pub top : c.top + e ≡ b.top + v
    pub right : c.right + d ≡ b.right + u
    pub bottom : c.bottom + e ≡ b.bottom + v

  grown_along : (a b p q : Box) → BoxAlong a p → BoxAlong b q → BoxAlong (grown a b) (grown p q)
  grown_along a b p q h k = record {
    left = min_along u d a.left b.left p.left q.left h.left k.left;
    top = min_along v e a.top b.top p.top q.top h.top k.top;
    right = max_along u d a.right b.right p.right q.right h.right k.right;
    bottom = max_along v e a.bottom b.bottom p.bottom q.bottom h.bottom k.bottom;
  }

  BoxesAlong : List Box → List Box → Type 0
  BoxesAlong [] [] = Unit
  BoxesAlong [] (c ∷ m) = ⊥
  BoxesAlong (b ∷ l) [] = ⊥
  BoxesAlong (b ∷ l) (c ∷ m) = BoxAlong b c × BoxesAlong l m

  all_along : (a p : Box) (l m : List Box) → BoxAlong a p → BoxesAlong l m → BoxAlong (grown_all a l) (grown_all p m)
  unfolding grown_all BoxesAlong
  all_along a p [] [] h k = h
  all_along a p [] (c ∷ m) h k = absurd k
  all_along a p (b ∷ l) [] h k = absurd k
  all_along a p (b ∷ l) (c ∷ m) h k = all_along (grown a b) (grown p c) l m (grown_along a b p c h k.0) k.1

  record GroupAlong (g h : Group) : Type 0 where
    pub present : h.present ≡ g.present
    pub box : g.present ≡ true → BoxAlong g.box h.box

  group_along : (l m : List Box) → BoxesAlong l m → GroupAlong (group_of l) (group_of m)
  unfolding BoxesAlong
  group_along [] [] k = record { present = refl; box = λ z. absurd (false≢true z) }
  group_along [] (c ∷ m) k = absurd k
  group_along (b ∷ l) [] k = absurd k
  group_along (b ∷ l) (c ∷ m) k = record { present = refl; box = λ z. all_along b c l m k.0 k.1 }

  chosen_along : (g h a b : Group) → GroupAlong g h → GroupAlong a b → a.present ≡ true
      → BoxAlong (choose g.present g.box a.box) (choose h.present h.box b.box)
  chosen_along g h a b k m z = rw k.present (go g.present refl)
    where
      go : (t : Bool) → g.present ≡ t → BoxAlong (choose t g.box a.box) (choose t h.box b.box)
      go true y = k.box y
      go false y = m.box z

  abbrev shift : Spatial → Spatial
  shift = moved_symbol (sub_ℕ u d) (sub_ℕ v e)

  symbol_along : (sizes : List ℕ) (s : Spatial) → stays (sub_ℕ u d) s.x ≡ true → stays (sub_ℕ v e) s.y ≡ true
      → BoxAlong (symbol_box sizes s) (symbol_box sizes (shift s))
  symbol_along sizes s h k =
      let x = stays_along u d s.x h in
      let y = stays_along v e s.y k in
      record {
        left = x;
        top = y;
        right = size_along u d s.x (shift s).x (width_of sizes s.code) x;
        bottom = size_along v e s.y (shift s).y (height_of sizes s.code) y;
      }

  boxes_along : (picks : ℕ → Bool) (sizes : List ℕ) (l : List Spatial) → every (stays (sub_ℕ u d)) (map (λ s. s.x) l) ≡ true
      → every (stays (sub_ℕ v e)) (map (λ s. s.y) l) ≡ true
      → BoxesAlong (map (symbol_box sizes) (keep (λ s. picks s.code) l)) (map (symbol_box sizes) (keep (λ s. picks s.code) (map shift l)))
  unfolding keep BoxesAlong
  boxes_along picks sizes [] h k = tt
  boxes_along picks sizes (s ∷ l) h k =
      let a = all_first (stays (sub_ℕ u d)) s.x (map (λ s. s.x) l) h in
      let b = all_first (stays (sub_ℕ v e)) s.y (map (λ s. s.y) l) k in
      go sizes s (keep (λ s. picks s.code) l) (keep (λ s. picks s.code) (map shift l)) (picks s.code) (symbol_along sizes s a.0 b.0) (boxes_along picks sizes l a.1 b.1)
    where
      go : (sizes : List ℕ) (s : Spatial) (kept after : List Spatial) (t : Bool) → BoxAlong (symbol_box sizes s) (symbol_box sizes (shift s))
          → BoxesAlong (map (symbol_box sizes) kept) (map (symbol_box sizes) after)
          → BoxesAlong (map (symbol_box sizes) (choose t (s ∷ kept) kept)) (map (symbol_box sizes) (choose t (shift s ∷ after) after))
      go sizes s kept after true a b = (a, b)
      go sizes s kept after false a b = b

  -- the box that serves an axis moves along, whichever group it is
  module _ (sizes : List ℕ) (l : List Spatial) (some : 0 < length l) (h : every (stays (sub_ℕ u d)) (map (λ s. s.x) l) ≡ true)
      (k : every (stays (sub_ℕ v e)) (map (λ s. s.y) l) ≡ true) where
    along : (picks : ℕ → Bool) → GroupAlong (group_in picks sizes l) (group_in picks sizes (map shift l))
    along picks =
        group_along (map (symbol_box sizes) (keep (λ s. picks s.code) l)) (map (symbol_box sizes) (keep (λ s. picks s.code) (map shift l))) (boxes_along picks sizes l h k)

    whole : (m : List Spatial) → 0 < length m → (group_in (λ code. true) sizes m).present ≡ true
    unfolding keep
    whole [] z = absurd (omega arith)
    whole (s ∷ m) z = refl

    pub serving_along : (i : ℕ) → i < 3 → BoxAlong (chosen_box (groups_of sizes l) i) (chosen_box (groups_of sizes (map shift l)) i)
    unfolding groups_of
    serving_along zero z =
        chosen_along (group_in is_head sizes l) (group_in is_head sizes (map shift l)) (group_in (λ code. true) sizes l) (group_in (λ code. true) sizes (map shift l))
        (along is_head) (along (λ code. true)) (whole l some)
    serving_along (suc zero) z =
        chosen_along (group_in (λ code. is_head code || is_trunk code) sizes l) (group_in (λ code. is_head code || is_trunk code) sizes (map shift l)) (group_in (λ code. true) sizes l) (group_in (λ code. true) sizes (map shift l))
        (along (λ code. is_head code || is_trunk code)) (along (λ code. true)) (whole l some)
    serving_along (suc (suc zero)) z =
        chosen_along (group_in (λ code. true) sizes l) (group_in (λ code. true) sizes (map shift l)) (group_in (λ code. true) sizes l) (group_in (λ code. true) sizes (map shift l))
        (along (λ code. true)) (along (λ code. true)) (whole l some)
    serving_along (suc (suc (suc i))) z = absurd (omega arith)
