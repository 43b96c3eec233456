-- Tests that hold together.
use Prim.Native.Nat.{ℕ}
use mathlib.Core.Path.{◌≡◌, refl, sym}
use mathlib.Core.Bool.{Bool, true, false, ◌||◌, and-eq-true_iff}
use mathlib.Core.Logic.{◌⊎◌, inl, inr}
use lib.Dec.{leb}
use native.Mathlib.Omega.{arith}
use borrow.Author.Tests.{le-leb, leb-true}
use Rattle.format.specs.Numeral.{Range}
use Rattle.stylinggrammar.specs.Styling.{among}

pub true_false : {X : Type 0} → true ≡ false → X
true_false e = absurd (let z : ◌≡◌ {A = ℕ} 0 1 = cc in omega arith)

pub false_true : {X : Type 0} → false ≡ true → X
false_true e = true_false (sym e)

pub one_left : (a b : Bool) → a ≡ true → (a || b) ≡ true
one_left true b e = refl
one_left false b e = false_true e

pub one_right : (a b : Bool) → b ≡ true → (a || b) ≡ true
one_right true b e = refl
one_right false b e = e

pub which : (a b : Bool) → (a || b) ≡ true → (a ≡ true) ⊎ (b ≡ true)
which true b e = inl refl
which false b e = inr e

pub among_true : (lo hi n : ℕ) → Range lo hi n → among lo hi n ≡ true
among_true lo hi n k = (and-eq-true_iff (leb lo n) (leb n hi)).1 (le-leb lo n k.0, le-leb n hi k.1)

pub among_range : (lo hi n : ℕ) → among lo hi n ≡ true → Range lo hi n
among_range lo hi n e = let k = (and-eq-true_iff (leb lo n) (leb n hi)).0 e in (leb-true lo n k.0, leb-true n hi k.1)
