-- The numbers of an axis in an array, moved one by one.
use Prim.Native.Nat.{ℕ, zero, suc, ◌+◌, ◌≤◌, ◌<◌}
use mathlib.Core.Path.{◌≡◌, refl, ap, ◌∙◌}
use mathlib.Core.Bool.{Bool, ◌&&◌, true, false}
use mathlib.Core.List.{List, [], ◌∷◌}
use native.Mathlib.Numerals.{add-one}
use native.Mathlib.Omega.{arith}
use lib.IntN.{ℤ}
use lib.ListN.{length, get_or, set}
use Rattle.std.specs.Prelude.{Ok, Err}
use Rattle.format.specs.Format.{every}
use Rattle.format.proofs.Lists.{every_snoc, every_all}
use Rattle.token.specs.declared.refusal.Refusal.{Refusal}
use Rattle.token.specs.declared.refusal.Refusal.TheVariants.{NumberOutside}
use Rattle.writer.specs.Arrays.{upto, at}
use Rattle.writer.proofs.Upto.{all_upto}
use Rattle.bounds.proofs.Grouping.{upto_more}
use Rattle.moving.specs.Moves.{stays}
use Rattle.moving.specs.Inner.{or_outside, map_first, moved_axis}

-- what is answered says how the test went
pub was_inside : {A : Type 0} (test : Bool) (a b : A) → or_outside test a ≡ Ok b → (test ≡ true) × (a ≡ b)
was_inside true a b e = (refl, cc)
was_inside false a b e = cc

pub was_outside : {A : Type 0} (test : Bool) (a : A) (r : Refusal) → or_outside test a ≡ Err r → (test ≡ false) × (r ≡ NumberOutside)
was_outside true a r e = cc
was_outside false a r e = (refl, cc)

map_suc : (f : ℕ → ℕ) (i : ℕ) (l : List ℕ) → set (map_first f i l) i (f (get_or l i 0)) ≡ map_first f (suc i) l
unfolding map_first
map_suc f zero [] = refl
map_suc f zero (x ∷ l) = refl
map_suc f (suc i) [] = refl
map_suc f (suc i) (x ∷ l) = ap (λ m. f x ∷ m) (map_suc f i l)

pub map_none : (f : ℕ → ℕ) (l : List ℕ) → map_first f 0 l ≡ l
unfolding map_first
map_none f l = refl

pub map_more : (f : ℕ → ℕ) (i : ℕ) (l : List ℕ) → set (map_first f i l) i (f (get_or l i 0)) ≡ map_first f (i + 1) l
map_more f i l = rw add-one (map_suc f i l)

pub map_at : (f : ℕ → ℕ) (n : ℕ) (l : List ℕ) (i : ℕ) → i < n → n ≤ length l → at (map_first f n l) i ≡ f (at l i)
unfolding map_first
map_at f zero l i h k = absurd (omega arith)
map_at f (suc n) [] i h k = absurd (omega arith)
map_at f (suc n) (a ∷ l) zero h k = refl
map_at f (suc n) (a ∷ l) (suc i) h k = map_at f n l i (omega arith) (omega arith)

-- an axis of which a number leaves
module _ (by : ℤ) (most : ℕ) (values : List ℕ) where
  leaves_if : (n : ℕ) → every (stays by) (most ∷ upto (at values) n) ≡ false → moved_axis by most n values ≡ Err NumberOutside
  leaves_if n e = rw e

  pub one_leaves : (n i : ℕ) → i < n → stays by (at values i) ≡ false → moved_axis by most n values ≡ Err NumberOutside
  one_leaves n i h e = leaves_if n (go (every (stays by) (most ∷ upto (at values) n)) refl)
    where
      go : (t : Bool) → every (stays by) (most ∷ upto (at values) n) ≡ t → t ≡ false
      go false k = refl
      go true k =
          let all = every_all (stays by) (most ∷ upto (at values) n) k in
          let one : stays by (at values i) ≡ true = all_upto (λ v. stays by v ≡ true) (at values) n all.1 i h in
          cc

  -- an axis whose numbers stay, so far
  pub none_left : stays by most ≡ true → every (stays by) (most ∷ upto (at values) 0) ≡ true
  unfolding upto
  none_left e = rw e

  pub one_stays : (i : ℕ) → every (stays by) (most ∷ upto (at values) i) ≡ true → stays by (at values i) ≡ true → every (stays by) (most ∷ upto (at values) (i + 1)) ≡ true
  one_stays i h k =
      ap (λ l. every (stays by) (most ∷ l)) (upto_more (at values) i) ∙ every_snoc (stays by) (most ∷ upto (at values) i) (at values i) ∙ (λ j. h j && k j)
