-- Words that are put one by one, and small tests: one law for each return.
use Prim.Native.Nat.{ℕ}
use mathlib.Core.Path.{◌≡◌, refl}
use mathlib.Core.Bool.{Bool, true, false, not, ◌||◌}
use mathlib.Core.Logic.{◌⊎◌, inl, inr}
use lib.Dec.{leb, ltb}
use borrow.Author.Tests.{lt-ltb, le-ltb, leb-true, leb-false}

-- one of two tests, the second made where the first fails
pub either : (one other r : Bool) → ((one ≡ true) × (r ≡ one)) ⊎ ((one ≡ false) × (r ≡ other)) → r ≡ one || other
either one other r (inl w) = rw (w.1, w.0)
either one other r (inr w) = rw (w.1, w.0)

-- more than eight
pub crowd : (count : ℕ) → ltb 8 count ≡ not (leb count 8)
crowd count = go (leb count 8) refl
  where
    go : (t : Bool) → leb count 8 ≡ t → ltb 8 count ≡ not t
    go true h = le-ltb 8 count (leb-true count 8 h)
    go false h = lt-ltb 8 count (leb-false count 8 h)
