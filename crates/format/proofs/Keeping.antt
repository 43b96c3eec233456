-- Laws of `keep`.
use Prim.Native.Nat.{suc, ◌≤◌, zero-le}
use mathlib.Core.Path.{◌≡◌, refl, sym, ap, ◌∙◌}
use mathlib.Core.List.{List, [], ◌∷◌, ◌++◌}
use mathlib.Core.Bool.{Bool, true, false, ◌&&◌, and_comm}
use native.Mathlib.Omega.{arith}
use lib.ListN.{length}
use Rattle.format.specs.Format.{choose, All, keep}

pub keep_length : {A : Type 0} (test : A → Bool) (l : List A) → length (keep test l) ≤ length l
unfolding keep
keep_length test [] = zero-le
keep_length test (a ∷ l) = go (test a) (keep_length test l)
  where
    go : (t : Bool) → length (keep test l) ≤ length l → length (choose t (a ∷ keep test l) (keep test l)) ≤ suc (length l)
    go true h = omega arith
    go false h = omega arith

pub keep_keep : {A : Type 0} (p q : A → Bool) (l : List A) → keep q (keep p l) ≡ keep (λ a. p a && q a) l
unfolding keep
keep_keep p q [] = refl
keep_keep {A} p q (a ∷ l) = go (p a) (keep_keep p q l)
  where
    both : A → Bool
    both a = p a && q a

    go : (t : Bool) → keep q (keep p l) ≡ keep both l → keep q (choose t (a ∷ keep p l) (keep p l)) ≡ choose (t && q a) (a ∷ keep both l) (keep both l)
    go true h = ap (λ k. choose (q a) (a ∷ k) k) h
    go false h = h

pub keep_every : {A : Type 0} (l : List A) → keep (λ a. true) l ≡ l
unfolding keep
keep_every [] = refl
keep_every (a ∷ l) = ap (λ k. a ∷ k) (keep_every l)

-- what is kept of one element more
pub keep_more : {A : Type 0} (test : A → Bool) (l : List A) (e : A) → keep test (l ++ (e ∷ [])) ≡ keep test l ++ choose (test e) (e ∷ []) []
unfolding keep
keep_more test [] e = refl
keep_more test (a ∷ l) e = go (test a) (keep_more test l e)
  where
    go : (t : Bool) → keep test (l ++ (e ∷ [])) ≡ keep test l ++ choose (test e) (e ∷ []) []
        → choose t (a ∷ keep test (l ++ (e ∷ []))) (keep test (l ++ (e ∷ []))) ≡ choose t (a ∷ keep test l) (keep test l) ++ choose (test e) (e ∷ []) []
    go true h = ap (λ k. a ∷ k) h
    go false h = h

-- tests that agree on a list keep the same
pub keep_agree : {A : Type 0} (p q : A → Bool) (l : List A) → All (λ a. p a ≡ q a) l → keep p l ≡ keep q l
unfolding keep
keep_agree p q [] h = refl
keep_agree p q (a ∷ l) h = λ i. choose (h.0 i) (a ∷ keep_agree p q l h.1 i) (keep_agree p q l h.1 i)

-- what holds of every element holds of those kept
pub keep_all : {A : Type 0} (P : A → Type 0) (test : A → Bool) (l : List A) → All P l → All P (keep test l)
unfolding keep
keep_all P test [] h = h
keep_all P test (a ∷ l) h = go (test a) (keep_all P test l h.1)
  where
    go : (t : Bool) → All P (keep test l) → All P (choose t (a ∷ keep test l) (keep test l))
    go true k = (h.0, k)
    go false k = k

-- and what is kept passes
pub keep_passes : {A : Type 0} (test : A → Bool) (l : List A) → All (λ a. test a ≡ true) (keep test l)
unfolding keep
keep_passes test [] = tt
keep_passes test (a ∷ l) = go (test a) refl (keep_passes test l)
  where
    go : (t : Bool) → test a ≡ t → All (λ a. test a ≡ true) (keep test l) → All (λ a. test a ≡ true) (choose t (a ∷ keep test l) (keep test l))
    go true e h = (e, h)
    go false e h = h

-- an element that passes is kept, and one that does not is left out
pub keep_in : {A : Type 0} (test : A → Bool) (a : A) (l : List A) → test a ≡ true → keep test (a ∷ l) ≡ a ∷ keep test l
unfolding keep
keep_in test a l h = rw h

pub keep_out : {A : Type 0} (test : A → Bool) (a : A) (l : List A) → test a ≡ false → keep test (a ∷ l) ≡ keep test l
unfolding keep
keep_out test a l h = rw h

pub keep_none : {A : Type 0} (test : A → Bool) (l : List A) → All (λ a. test a ≡ false) l → keep test l ≡ []
unfolding keep
keep_none test [] h = refl
keep_none test (a ∷ l) h = keep_out test a l h.0 ∙ keep_none test l h.1

-- it does not matter by which of two tests one keeps first
pub keep_swap : {A : Type 0} (p q : A → Bool) (l : List A) → keep q (keep p l) ≡ keep p (keep q l)
keep_swap p q l = keep_keep p q l ∙ (λ i. keep (λ a. and_comm (p a) (q a) i) l) ∙ sym (keep_keep q p l)
