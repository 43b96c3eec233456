-- Stores into a list that has others before and after it.
use Prim.Native.Nat.{ℕ, suc, ◌+◌, ◌≤◌}
use native.Mathlib.Nat.{zero-add, suc-add}
use mathlib.Core.List.{List, [], ◌∷◌, ◌++◌}
use mathlib.Core.Path.{◌≡◌, refl, ap, subst, ◌∙◌}
use lib.ListN.{length, set, length-set}
use lib.Seq.{sets, set-append_left}
use native.Mathlib.Omega.{arith}

module _ {A : Type 0} where
  pub set_after : (before l : List A) (n i : ℕ) (v : A) → length before ≡ n → set (before ++ l) (n + i) v ≡ before ++ set l i v
  set_after before l n i v e = subst (λ (k : ℕ). set (before ++ l) (k + i) v ≡ before ++ set l i v) e (go before)
    where
      go : (before : List A) → set (before ++ l) (length before + i) v ≡ before ++ set l i v
      go [] = ap (λ k. set l k v) (zero-add i)
      go (a ∷ before) = ap (λ k. set (a ∷ (before ++ l)) k v) (suc-add (length before) i) ∙ ap (λ k. a ∷ k) (go before)

  pub sets_cons : (a : A) (l : List A) (i : ℕ) (vs : List A) → sets (a ∷ l) (suc i) vs ≡ a ∷ sets l i vs
  sets_cons a l i [] = refl
  sets_cons a l i (v ∷ vs) = sets_cons a (set l i v) (suc i) vs

  pub sets_after : (before l : List A) (n i : ℕ) (vs : List A) → length before ≡ n → sets (before ++ l) (n + i) vs ≡ before ++ sets l i vs
  sets_after before l n i [] e = refl
  sets_after before l n i (v ∷ vs) e =
      ap (λ k. sets k (suc (n + i)) vs) (set_after before l n i v e)
      ∙ ap (λ k. sets (before ++ set l i v) k vs) (omega arith)
      ∙ sets_after before (set l i v) n (suc i) vs e

  pub sets_before : (l after : List A) (i : ℕ) (vs : List A) → i + length vs ≤ length l → sets (l ++ after) i vs ≡ sets l i vs ++ after
  sets_before l after i [] h = refl
  sets_before l after i (v ∷ vs) h =
      ap (λ k. sets k (suc i) vs) (set-append_left l after i v (omega arith))
      ∙ sets_before (set l i v) after (suc i) vs (omega (arith, length-set l i v))
