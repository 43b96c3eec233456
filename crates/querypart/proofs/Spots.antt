-- The first reversed range of spots that follow each other.
use Prim.Native.Nat.{ℕ, ◌+◌}
use mathlib.Core.List.{List, [], ◌∷◌, ◌++◌, append-nil, append_assoc}
use mathlib.Core.Path.{◌≡◌, refl, sym, ap, ◌∙◌}
use mathlib.Core.Bool.{Bool, true, false}
use mathlib.Core.Option.{some}
use lib.ListN.{length, length-append}
use native.Mathlib.Omega.{arith}
use Rattle.std.specs.Option.{option_or}
use Rattle.format.specs.Format.{Format, choose, write_all}
use Rattle.queryitem.specs.Numbers.{optionally}
use Rattle.querypart.specs.Spots.{reversed, Spot, all_spots, first_reversed}
use Rattle.querypart.specs.Inner.{first_of}

-- the first of all is the first of the former ones, if they have one
pub first_both : (l m : List Spot) → first_of (l ++ m) ≡ option_or (first_of l) (first_of m)
first_both [] m = refl
first_both (spot ∷ l) m = go (reversed spot.1) (first_both l m)
  where
    go : (t : Bool) → first_of (l ++ m) ≡ option_or (first_of l) (first_of m)
        → optionally (choose t (some spot.0) (first_reversed (l ++ m))) ≡ option_or (optionally (choose t (some spot.0) (first_reversed l))) (first_of m)
    go true e = refl
    go false e = e

-- VALUES ONE AFTER THE OTHER

module _ {A : Type 0} (f : Format A) (spots : ℕ → A → List Spot) where
  pub spots_more : (at : ℕ) (l : List A) (a : A) → all_spots f spots at (l ++ (a ∷ [])) ≡ all_spots f spots at l ++ spots (at + length (write_all f.write l)) a
  spots_more at [] a = append-nil (spots at a) ∙ ap (λ i. spots i a) (omega arith)
  spots_more at (b ∷ l) a =
      let n = length (f.write b) in
      let e : at + n + length (write_all f.write l) ≡ at + length (f.write b ++ write_all f.write l) = omega (arith, length-append (f.write b) (write_all f.write l)) in
      ap (λ k. spots at b ++ k) (spots_more (at + n) l a ∙ ap (λ i. all_spots f spots (at + n) l ++ spots i a) e)
      ∙ sym (append_assoc (spots at b) (all_spots f spots (at + n) l) (spots (at + length (f.write b ++ write_all f.write l)) a))

pub write_more : {A : Type 0} (f : Format A) (l : List A) (a : A) → length (write_all f.write (l ++ (a ∷ []))) ≡ length (write_all f.write l) + length (f.write a)
write_more f [] a = length-append (f.write a) [] ∙ omega arith
write_more f (b ∷ l) a =
    length-append (f.write b) (write_all f.write (l ++ (a ∷ []))) ∙ ap (λ n. length (f.write b) + n) (write_more f l a)
    ∙ (let e = length-append (f.write b) (write_all f.write l) in omega arith)
