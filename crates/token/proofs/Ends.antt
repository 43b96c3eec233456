-- The end of a text, as a function tests it.
use Prim.Native.Nat.{ℕ, ◌+◌, ◌-◌, ◌≤◌}
use mathlib.Core.Path.{◌≡◌, refl}
use mathlib.Core.Bool.{Bool, true, false}
use lib.Dec.{eqb, ltb}
use native.Mathlib.Omega.{arith}
use borrow.Author.Tests.{lt-ltb, le-ltb, ltb-true, ltb-false}
use Rattle.std.specs.Prelude.{Result as Answer, Ok, Err, ⊤}
use Rattle.format.specs.Format.{choose}
use Rattle.format.specs.Places.{fine, refused, ends_short}
use Rattle.format.specs.Located.{found, ended}
use Rattle.charset.specs.declared.Charset.{Charset}
use Rattle.charset.specs.Tokens.{tokens}
use Rattle.token.specs.declared.refusal.Refusal.{Refusal}
use Rattle.token.specs.declared.refusal.Refusal.TheVariants.{TextWrong, TextShort}
use Rattle.token.specs.Ends.{left_over}
use Rattle.token.specs.Result.{outcome, on_done, of_outcome}

module _ {A : Type 0} (v : A) where
  abbrev test : ℕ → ℕ → Bool → Bool → Answer ⊤ Refusal
  test size i p q = choose p (Ok tt) (choose q (Err (TextShort size)) (Err (TextWrong i)))

  end_go : (w size i : ℕ) → i ≤ size → (p q : Bool) → ltb (size - i) w ≡ q
      → on_done (λ _. v) (outcome (test size i p q)) ≡ of_outcome size (choose p (fine v) (choose (ltb size (i + w)) ends_short (refused i)))
  end_go w size i h true q e = refl
  end_go w size i h false true e = rw (lt-ltb size (i + w) (omega (arith, ltb-true (size - i) w e)))
  end_go w size i h false false e = rw (le-ltb size (i + w) (omega (arith, ltb-false (size - i) w e)))

  -- what the test answers is what the end of the text is
  pub end_is : (set : Charset) (size i : ℕ) → i ≤ size → on_done (λ _. v) (outcome (left_over set size i)) ≡ of_outcome size (ended (tokens set).unit size (found v i))
  unfolding left_over
  end_is set size i h = end_go (tokens set).unit size i h (eqb i size) (ltb (size - i) (tokens set).unit) refl
