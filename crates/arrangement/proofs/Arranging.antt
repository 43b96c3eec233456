-- An arranged list has the same elements, in order, what stands level in its old order; and no other list is so.
use Prim.Native.Nat.{ℕ}
use native.Mathlib.Omega.{arith}
use mathlib.Core.Path.{◌≡◌, refl, sym, ap, ◌∙◌}
use mathlib.Core.List.Perm
use mathlib.Core.List.{List, [], ◌∷◌, Perm}
use mathlib.Core.Bool.{Bool, true, false, not, ◌&&◌}
use Rattle.format.specs.Format.{choose, All, keep}
use Rattle.format.proofs.Lists.{all_weaker, cons_head, cons_tail}
use Rattle.format.proofs.Keeping.{keep_in, keep_out, keep_none, keep_all, keep_swap}
use Rattle.arrangement.specs.Arranged.{insert, arranged, level}
use Rattle.arrangement.specs.Laws.{Order, InOrder, Arrangement}
use Rattle.arrangement.proofs.Merging.{differ, insert_none, insert_on, insert_here, halves}

both_false : (s t : Bool) → not s && not t ≡ true → (s ≡ false) × (t ≡ false)
both_false false false h = (refl, refl)
both_false false true h = absurd (differ h)
both_false true t h = absurd (differ h)

filled : {A : Type 0} (a : A) (l : List A) → a ∷ l ≡ [] → ⊥
filled a l e = let z : ◌≡◌ {A = ℕ} 0 1 = cc in omega arith

module _ {A : Type 0} (before : A → A → Bool) where
  insert_same : (e : A) (l : List A) → Perm (insert before e l) (e ∷ l)
  unfolding insert
  insert_same e [] = Perm.refl (e ∷ [])
  insert_same e (a ∷ l) = go (before a e) (insert_same e l)
    where
      go : (t : Bool) → Perm (insert before e l) (e ∷ l) → Perm (choose t (a ∷ insert before e l) (e ∷ a ∷ l)) (e ∷ a ∷ l)
      go true h = Perm.trans (Perm.cons a h) (Perm.swap e a l)
      go false h = Perm.refl (e ∷ a ∷ l)

  pub arranged_same : (l : List A) → Perm (arranged before l) l
  unfolding arranged
  arranged_same [] = Perm.refl []
  arranged_same (a ∷ l) = Perm.trans (insert_same a (arranged before l)) (Perm.cons a (arranged_same l))

  pub insert_all : (P : A → Type 0) (e : A) (l : List A) → P e → All P l → All P (insert before e l)
  unfolding insert
  insert_all P e [] h k = (h, tt)
  insert_all P e (a ∷ l) h k = go (before a e) (insert_all P e l h k.1)
    where
      go : (t : Bool) → All P (insert before e l) → All P (choose t (a ∷ insert before e l) (e ∷ a ∷ l))
      go true m = (k.0, m)
      go false m = (h, k)

  pub arranged_all : (P : A → Type 0) (l : List A) → All P l → All P (arranged before l)
  unfolding arranged
  arranged_all P [] h = tt
  arranged_all P (a ∷ l) h = insert_all P a (arranged before l) h.0 (arranged_all P l h.1)

  module _ (o : Order before) where
    against : (a b : A) → before a b ≡ true → before b a ≡ false
    against a b h = go (before b a) refl
      where
        go : (t : Bool) → before b a ≡ t → t ≡ false
        go true k = absurd (differ (sym (o.never a) ∙ o.chain a b a h k))
        go false k = refl

    insert-order : (e : A) (l : List A) → InOrder before l → InOrder before (insert before e l)
    unfolding insert
    insert-order e [] h = (tt, tt)
    insert-order e (a ∷ l) h = go (before a e) refl (insert-order e l h.1)
      where
        go : (t : Bool) → before a e ≡ t → InOrder before (insert before e l) → InOrder before (choose t (a ∷ insert before e l) (e ∷ a ∷ l))
        go true i m = (insert_all (λ b. before b a ≡ false) e l (against a e i) h.0, m)
        go false i m = ((i, all_weaker (λ b. before b a ≡ false) (λ b. before b e ≡ false) (λ b k. o.after b a e k i) l h.0), h)

    pub arranged_order : (l : List A) → InOrder before (arranged before l)
    unfolding arranged
    arranged_order [] = tt
    arranged_order (a ∷ l) = insert-order a (arranged before l) (arranged_order l)

    level-parts : (a b : A) → level before a b ≡ true → (before a b ≡ false) × (before b a ≡ false)
    level-parts a b h = both_false (before a b) (before b a) h

    level-is : (a b : A) → before a b ≡ false → before b a ≡ false → level before a b ≡ true
    level-is a b h k = rw (h, k)

    insert-stable : (c e : A) (l : List A) → keep (level before c) (insert before e l) ≡ keep (level before c) (e ∷ l)
    insert-stable c e [] = ap (keep (level before c)) (insert_none before e)
    insert-stable c e (a ∷ l) = go (before a e) (level before c a) (level before c e) refl refl refl (insert-stable c e l)
      where
        go : (t u v : Bool) → before a e ≡ t → level before c a ≡ u → level before c e ≡ v
            → keep (level before c) (insert before e l) ≡ keep (level before c) (e ∷ l)
            → keep (level before c) (insert before e (a ∷ l)) ≡ keep (level before c) (e ∷ a ∷ l)
        go false u v h i j m = ap (keep (level before c)) (insert_here before e a l h)
        go true true true h i j m =
            absurd (differ (sym (o.after a c e (level-parts c a i).1 (level-parts c e j).0) ∙ h))
        go true true false h i j m =
            ap (keep (level before c)) (insert_on before e a l h)
            ∙ keep_in (level before c) a (insert before e l) i ∙ ap (λ x. a ∷ x) (m ∙ keep_out (level before c) e l j)
            ∙ sym (keep_in (level before c) a l i) ∙ sym (keep_out (level before c) e (a ∷ l) j)
        go true false v h i j m =
            ap (keep (level before c)) (insert_on before e a l h)
            ∙ keep_out (level before c) a (insert before e l) i ∙ m ∙ late v j
          where
            late : (v : Bool) → level before c e ≡ v → keep (level before c) (e ∷ l) ≡ keep (level before c) (e ∷ a ∷ l)
            late true j = keep_in (level before c) e l j ∙ ap (λ x. e ∷ x) (sym (keep_out (level before c) a l i)) ∙ sym (keep_in (level before c) e (a ∷ l) j)
            late false j = keep_out (level before c) e l j ∙ sym (keep_out (level before c) a l i) ∙ sym (keep_out (level before c) e (a ∷ l) j)

    keep_more : (c a : A) (k l : List A) → keep (level before c) k ≡ keep (level before c) l → keep (level before c) (a ∷ k) ≡ keep (level before c) (a ∷ l)
    keep_more c a k l e = go (level before c a) refl
      where
        go : (t : Bool) → level before c a ≡ t → keep (level before c) (a ∷ k) ≡ keep (level before c) (a ∷ l)
        go true h = keep_in (level before c) a k h ∙ ap (λ x. a ∷ x) e ∙ sym (keep_in (level before c) a l h)
        go false h = keep_out (level before c) a k h ∙ e ∙ sym (keep_out (level before c) a l h)

    pub arranged_stable : (c : A) (l : List A) → keep (level before c) (arranged before l) ≡ keep (level before c) l
    unfolding arranged
    arranged_stable c [] = refl
    arranged_stable c (a ∷ l) = insert-stable c a (arranged before l) ∙ keep_more c a (arranged before l) l (arranged_stable c l)

    -- k, in order, has nothing level with a, which comes before its first
    none-level : (a b : A) (k : List A) → before a b ≡ true → All (λ x. before x b ≡ false) k → All (λ x. level before a x ≡ false) k
    none-level a b k h = all_weaker (λ x. before x b ≡ false) (λ x. level before a x ≡ false) (λ x i. go x i (level before a x) refl) k
      where
        go : (x : A) → before x b ≡ false → (t : Bool) → level before a x ≡ t → level before a x ≡ false
        go x i true j = absurd (differ (sym (o.after a x b (level-parts a x j).0 i) ∙ h))
        go x i false j = j

    self-level : (a : A) → level before a a ≡ true
    self-level a = level-is a a (o.never a) (o.never a)

    -- of lists with the same elements level with each, neither begins before the other
    not-before : (a b : A) (k m : List A) → InOrder before (b ∷ m) → keep (level before a) (a ∷ k) ≡ keep (level before a) (b ∷ m) → before a b ≡ false
    not-before a b k m h e = go (before a b) refl
      where
        go : (t : Bool) → before a b ≡ t → t ≡ false
        go false i = refl
        go true i =
            absurd (filled a (keep (level before a) k)
            (sym (keep_in (level before a) a k (self-level a)) ∙ e
            ∙ keep_none (level before a) (b ∷ m) (none-level a b (b ∷ m) i (o.never b, h.0))))

    -- the rest is the same where the first is
    keep-less : (c a : A) (k m : List A) → keep (level before c) (a ∷ k) ≡ keep (level before c) (a ∷ m) → keep (level before c) k ≡ keep (level before c) m
    keep-less c a k m e = go (level before c a) refl
      where
        go : (t : Bool) → level before c a ≡ t → keep (level before c) k ≡ keep (level before c) m
        go true h = cons_tail (sym (keep_in (level before c) a k h) ∙ e ∙ keep_in (level before c) a m h)
        go false h = sym (keep_out (level before c) a k h) ∙ e ∙ keep_out (level before c) a m h

    pub unique : (k m : List A) → InOrder before k → InOrder before m → ((c : A) → keep (level before c) k ≡ keep (level before c) m) → k ≡ m
    unique [] [] h i e = refl
    unique [] (b ∷ m) h i e = absurd (filled b _ (sym (e b ∙ keep_in (level before b) b m (self-level b)) ∙ keep_none (level before b) [] tt))
    unique (a ∷ k) [] h i e = absurd (filled a _ (sym (keep_in (level before a) a k (self-level a)) ∙ e a ∙ keep_none (level before a) [] tt))
    unique (a ∷ k) (b ∷ m) h i e = both same (unique k m h.1 i.1 (λ c. keep-less c a k m (e c ∙ ap (λ x. keep (level before c) (x ∷ m)) (sym same))))
      where
        same : a ≡ b
        same =
            cons_head
            (sym (keep_in (level before a) a k (self-level a)) ∙ e a
            ∙ keep_in (level before a) b m (level-is a b (not-before a b k m i (e a)) (not-before b a m k h (sym (e b)))))

        both : a ≡ b → k ≡ m → a ∷ k ≡ b ∷ m
        both p q = cc

    only : (l k : List A) → InOrder before k → ((a : A) → keep (level before a) k ≡ keep (level before a) l) → k ≡ arranged before l
    only l k h e = unique k (arranged before l) h (arranged_order l) (λ a. e a ∙ sym (arranged_stable a l))

    -- what is kept of a list in order is in order
    keep-order : (test : A → Bool) (l : List A) → InOrder before l → InOrder before (keep test l)
    unfolding keep
    keep-order test [] h = tt
    keep-order test (a ∷ l) h = go (test a) (keep-order test l h.1)
      where
        go : (t : Bool) → InOrder before (keep test l) → InOrder before (choose t (a ∷ keep test l) (keep test l))
        go true m = (keep_all (λ b. before b a ≡ false) test l h.0, m)
        go false m = m

    pub arranged_keep : (test : A → Bool) (l : List A) → keep test (arranged before l) ≡ arranged before (keep test l)
    arranged_keep test l =
        only (keep test l) (keep test (arranged before l)) (keep-order test (arranged before l) (arranged_order l))
        (λ a. keep_swap test (level before a) (arranged before l) ∙ ap (keep test) (arranged_stable a l) ∙ sym (keep_swap test (level before a) l))

    pub arrangement : Arrangement before
    arrangement = record {
      same = arranged_same;
      in_order = arranged_order;
      stable = λ l a. arranged_stable a l;
      only = only;
      again = λ l. sym (only (arranged before l) (arranged before l) (arranged_order l) (λ a. refl));
      keeps = arranged_keep;
      halves = halves before o;
    }

-- orders that agree on the elements arrange alike
module _ {A : Type 0} (P : A → Type 0) (before other : A → A → Bool) (agree : (a b : A) → P a → P b → before a b ≡ other a b) where
  insert_agree : (e : A) (l : List A) → P e → All P l → insert before e l ≡ insert other e l
  unfolding insert
  insert_agree e [] h k = refl
  insert_agree e (a ∷ l) h k = λ i. choose (agree a e k.0 h i) (a ∷ insert_agree e l h k.1 i) (e ∷ a ∷ l)

  pub arranged_agree : (l : List A) → All P l → arranged before l ≡ arranged other l
  unfolding arranged
  arranged_agree [] h = refl
  arranged_agree (a ∷ l) h =
      ap (insert before a) (arranged_agree l h.1) ∙ insert_agree a (arranged other l) h.0 (arranged_all other P l h.1)
