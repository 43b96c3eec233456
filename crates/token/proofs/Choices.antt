-- What a variable holds after `if b == k { m = v; }`.
use Prim.Native.Nat.{ℕ}
use mathlib.Core.Path.{◌≡◌, ◌∙◌}
use mathlib.Core.Logic.{◌⊎◌, inl, inr}
use lib.Dec.{eqb}
use borrow.Author.Tests.{eq-eqb, ne_eqb}
use Rattle.format.specs.Format.{choose}

pub passed_over : (b k v m n : ℕ) → (b ≡ k → ⊥) → m ≡ n → m ≡ choose (eqb b k) v n
passed_over b k v m n h e = rw (ne_eqb b k h) e

pub set_or_kept : {T E : Type 0} {v m n : ℕ} (b k o : ℕ) → (T × (m ≡ v)) ⊎ (E × (m ≡ n)) → (T → b ≡ k) → (E → b ≡ k → ⊥) → n ≡ o → m ≡ choose (eqb b k) v o
set_or_kept {v = v} {m = m} {n = n} b k o (inl w) t l e = rw (eq-eqb b k (t w.0)) w.1
set_or_kept {v = v} {m = m} {n = n} b k o (inr w) t l e = passed_over b k v m o (l w.0) (w.1 ∙ e)
