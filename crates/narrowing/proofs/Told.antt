-- What the answers of the functions that look for a bad line tell.
use Prim.Native.Nat.{ℕ, zero, suc}
use mathlib.Core.Path.{◌≡◌, refl, sym}
use mathlib.Core.List.{List}
use mathlib.Core.Bool.{Bool, true, false}
use borrow.Author.Tests.{eqb-true, eqb-false}
use lib.Dec.{eqb}
use Rattle.std.specs.Prelude.{None, Some}
use Rattle.token.specs.Refusal.{line_wrong}
use Rattle.token.specs.Result.{refusal, done, check}
use Rattle.token.proofs.Checks.{refusal_done}
use Rattle.narrowing.specs.Narrowing.{first_bad, some_entry, check_lines}

-- by an Option
pub record Bad (e n : ℕ) : Type 0 where
  pub is : e ≡ n
  pub some : n ≡ 0 → ⊥

pub told_bad : (e n : ℕ) → Some e ≡ some_entry n → Bad e n
told_bad e zero h = absurd (cc h)
told_bad e (suc n) h = record { is = cc; some = λ z. absurd (cc z) }

pub told_good : (n : ℕ) → None ≡ some_entry n → n ≡ 0
told_good zero h = refl
told_good (suc n) h = absurd (cc h)

-- by a refusal
pub record Refused (reads : ℕ → Bool) (k : List ℕ) (x p : ℕ) : Type 0 where
  pub number : x ≡ line_wrong
  pub place : p ≡ first_bad reads k
  pub some : first_bad reads k ≡ 0 → ⊥

module _ {A : Type 0} (reads : ℕ → Bool) (k : List ℕ) (a : A) where
  pub lines_refused : (x p : ℕ) → refusal x p ≡ check_lines reads k (done a) → Refused reads k x p
  lines_refused x p e = go (eqb (first_bad reads k) 0) refl e
    where
      go : (t : Bool) → eqb (first_bad reads k) 0 ≡ t → refusal x p ≡ check t line_wrong (first_bad reads k) (done a) → Refused reads k x p
      go true q h = refusal_done x p h
      go false q h = record { number = cc; place = cc; some = eqb-false (first_bad reads k) 0 q }

  pub lines_done : (b : A) → done b ≡ check_lines reads k (done a) → (first_bad reads k ≡ 0) × (b ≡ a)
  lines_done b e = go (eqb (first_bad reads k) 0) refl e
    where
      go : (t : Bool) → eqb (first_bad reads k) 0 ≡ t → done b ≡ check t line_wrong (first_bad reads k) (done a) → (first_bad reads k ≡ 0) × (b ≡ a)
      go true q h = (eqb-true (first_bad reads k) 0 q, cc)
      go false q h = refusal_done line_wrong (first_bad reads k) (sym h)
