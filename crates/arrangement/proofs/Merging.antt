-- Inserting and merging, step by step, and the law of the two halves.
use Prim.Native.Nat.{suc, ◌<◌}
use native.Mathlib.Omega.{arith}
use mathlib.Core.Path.{◌≡◌, refl, sym, ap, ◌∙◌}
use mathlib.Core.List.{List, [], ◌∷◌, ◌++◌}
use mathlib.Core.Bool.{Bool, true, false, true≢false}
use lib.ListN.{length}
use Rattle.format.specs.Format.{choose}
use Rattle.arrangement.specs.Arranged.{insert, arranged, passing, merge}
use Rattle.arrangement.specs.Laws.{Order}

pub differ : false ≡ true → ⊥
differ e = true≢false (sym e)

module _ {A : Type 0} (before : A → A → Bool) where
  pub insert_none : (e : A) → insert before e [] ≡ e ∷ []
  unfolding insert
  insert_none e = refl

  pub insert_on : (e a : A) (l : List A) → before a e ≡ true → insert before e (a ∷ l) ≡ a ∷ insert before e l
  unfolding insert
  insert_on e a l h = rw h

  pub insert_here : (e a : A) (l : List A) → before a e ≡ false → insert before e (a ∷ l) ≡ e ∷ a ∷ l
  unfolding insert
  insert_here e a l h = rw h

  pub merge_none : (l : List A) → merge before [] l ≡ l
  unfolding merge
  merge_none l = refl

  pub merge_over : (a : A) (k : List A) → merge before (a ∷ k) [] ≡ a ∷ merge before k []
  unfolding merge passing
  merge_over a k = refl

  pub merge_right : (a b : A) (k l : List A) → before b a ≡ true → merge before (a ∷ k) (b ∷ l) ≡ b ∷ merge before (a ∷ k) l
  unfolding merge passing
  merge_right a b k l h = rw h

  pub merge_left : (a b : A) (k l : List A) → before b a ≡ false → merge before (a ∷ k) (b ∷ l) ≡ a ∷ merge before k (b ∷ l)
  unfolding merge passing
  merge_left a b k l h = rw h

  one_merge : (e : A) (l : List A) → insert before e l ≡ merge before (e ∷ []) l
  unfolding insert merge passing
  one_merge e [] = refl
  one_merge e (b ∷ l) = ap (λ x. choose (before b e) (b ∷ x) (e ∷ b ∷ l)) (one_merge e l)

  module _ (o : Order before) where
    -- whether e is put into the first list or into both merged
    insert-step : (e a : A) (k : List A) → ((l : List A) → insert before e (merge before k l) ≡ merge before (insert before e k) l)
        → (l : List A) → insert before e (merge before (a ∷ k) l) ≡ merge before (insert before e (a ∷ k)) l
    insert-step e a k ih [] = go (before a e) refl
      where
        go : (t : Bool) → before a e ≡ t → insert before e (merge before (a ∷ k) []) ≡ merge before (insert before e (a ∷ k)) []
        go true h = rw (merge_over a k, insert_on e a _ h, insert_on e a k h, merge_over a _) (ap (λ x. a ∷ x) (ih []))
        go false h = rw (merge_over a k, insert_here e a _ h, insert_here e a k h, merge_over e _, merge_over a k)
    insert-step e a k ih (b ∷ l) = go (before b a) (before a e) (before b e) refl refl refl (insert-step e a k ih l)
      where
        go : (t u v : Bool) → before b a ≡ t → before a e ≡ u → before b e ≡ v
            → insert before e (merge before (a ∷ k) l) ≡ merge before (insert before e (a ∷ k)) l
            → insert before e (merge before (a ∷ k) (b ∷ l)) ≡ merge before (insert before e (a ∷ k)) (b ∷ l)
        go true true true h i j n =
            rw (merge_right a b k l h, insert_on e b _ j, insert_on e a k i, merge_right a b _ l h) (ap (λ x. b ∷ x) (n ∙ rw (insert_on e a k i)))
        go true true false h i j n = absurd (differ (sym j ∙ o.chain b a e h i))
        go true false true h i j n =
            rw (merge_right a b k l h, insert_on e b _ j, insert_here e a k i, merge_right e b _ l j) (ap (λ x. b ∷ x) (n ∙ rw (insert_here e a k i)))
        go true false false h i j n =
            rw (merge_right a b k l h, insert_here e b _ j, insert_here e a k i, merge_left e b _ l j, merge_right a b k l h)
        go false true v h i j n =
            rw (merge_left a b k l h, insert_on e a _ i, insert_on e a k i, merge_left a b _ l h) (ap (λ x. a ∷ x) (ih (b ∷ l)))
        go false false true h i j n = absurd (differ (sym (o.after b a e h i) ∙ j))
        go false false false h i j n =
            rw (merge_left a b k l h, insert_here e a _ i, insert_here e a k i, merge_left e b _ l j, merge_left a b k l h)

    insert-merge : (e : A) (k l : List A) → insert before e (merge before k l) ≡ merge before (insert before e k) l
    unfolding insert
    insert-merge e [] l = rw (merge_none l) (one_merge e l)
    insert-merge e (a ∷ k) l = insert-step e a k (insert-merge e k) l

    pub halves : (k l : List A) → merge before (arranged before k) (arranged before l) ≡ arranged before (k ++ l)
    unfolding arranged
    halves [] l = merge_none _
    halves (a ∷ k) l = sym (insert-merge a (arranged before k) (arranged before l)) ∙ ap (insert before a) (halves k l)

  insert_length : (e : A) (l : List A) → length (insert before e l) ≡ suc (length l)
  unfolding insert
  insert_length e [] = refl
  insert_length e (a ∷ l) = go (before a e) (insert_length e l)
    where
      go : (t : Bool) → length (insert before e l) ≡ suc (length l) → length (choose t (a ∷ insert before e l) (e ∷ a ∷ l)) ≡ suc (suc (length l))
      go true h = ap suc h
      go false h = refl

  pub arranged_length : (l : List A) → length (arranged before l) ≡ length l
  unfolding arranged
  arranged_length [] = refl
  arranged_length (a ∷ l) = insert_length a (arranged before l) ∙ ap suc (arranged_length l)

  -- none or one is arranged
  pub arranged_few : (l : List A) → length l < 2 → l ≡ arranged before l
  unfolding arranged insert
  arranged_few [] h = refl
  arranged_few (a ∷ []) h = refl
  arranged_few (a ∷ b ∷ l) h = absurd (omega (arith, h))
