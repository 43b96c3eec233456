-- Fixed bytes: one law for each return of a function that tests them.
use Prim.Native.Nat.{ℕ, ◌+◌, ◌≤◌, ◌<◌}
use mathlib.Core.Path.{◌≡◌, sym, ◌∙◌}
use mathlib.Core.List.{List}
use mathlib.Core.Bool.{Bool, true, false, and-eq-true_iff}
use lib.Dec.{eqb, ltb}
use lib.ListN.{length, get_or}
use native.Mathlib.Omega.{arith}
use borrow.Author.Tests.{eq-eqb, lt-ltb, ltb-true, eqb-true}
use Rattle.stylinggrammar.proofs.Tests.{false_true}
use Rattle.stylingreader.specs.Parts.{stands_at}

pub record Stands (s : List ℕ) (at b : ℕ) : Type 0 where
  pub inside : at < length s
  pub is : get_or s at 0 ≡ b

pub stands_so : (s : List ℕ) (at b : ℕ) → stands_at s at b ≡ true → Stands s at b
unfolding stands_at
stands_so s at b e =
    let q = (and-eq-true_iff (ltb at (length s)) (eqb (get_or s at 0) b)).0 e in
    record { inside = ltb-true at (length s) q.0; is = eqb-true (get_or s at 0) b q.1 }

pub stands_not : (s : List ℕ) (at b : ℕ) → stands_at s at b ≡ false → Stands s at b → ⊥
unfolding stands_at
stands_not s at b e q =
    let t : stands_at s at b ≡ true = rw (lt-ltb at (length s) q.inside, eq-eqb (get_or s at 0) b q.is) in
    false_true (sym e ∙ t)

-- after a byte that stands there
pub stands_room : (s : List ℕ) (at b : ℕ) (t : Bool) → t ≡ stands_at s at b → t ≡ true → at + 1 ≤ length s
stands_room s at b t e f = let q = stands_so s at b (sym e ∙ f) in omega (arith, q.inside)
