-- The tests over the words of a row: one law for each way on or out.
use Prim.Native.Nat.{ℕ, zero, suc, ◌+◌, ◌-◌, ◌*◌, ◌≤◌, ◌<◌}
use mathlib.Core.Path.{◌≡◌, refl, sym, ap, ◌∙◌}
use mathlib.Core.List.{List}
use mathlib.Core.Bool.{Bool, true, false, ◌||◌}
use native.Mathlib.Omega.{arith}
use Rattle.matching.specs.Inner.{word, fits_one, fits_row, fits_at}

-- ALTERNATIVES ONE BY ONE

module _ (words : List ℕ) (code : ℕ) where
  step : (i left : ℕ) → 0 < left → fits_row words i left code ≡ fits_one words i code || fits_row words (i + 3) (left - 1) code
  unfolding fits_row
  step i zero h = absurd (omega arith)
  step i (suc n) h =
      let e : suc n - 1 ≡ n = omega arith in
      rw e

  module _ (at n : ℕ) where
    -- none of the first k fits
    abbrev pub Fitting : ℕ → Type 0
    Fitting k = fits_row words at n code ≡ fits_row words (at + 3 * k) (n - k) code

    module _ (k : ℕ) (v : Fitting k) where
      one_more : k < n → fits_row words at n code ≡ fits_one words (at + 3 * k) code || fits_row words (at + 3 * k + 3) (n - k - 1) code
      one_more h = v ∙ step (at + 3 * k) (n - k) (omega arith)

      pub fitting_hit : k < n → true ≡ fits_one words (at + 3 * k) code → true ≡ fits_row words at n code
      fitting_hit h e = sym (one_more h ∙ ap (λ u. u || fits_row words (at + 3 * k + 3) (n - k - 1) code) (sym e))

      pub fitting_on : k < n → false ≡ fits_one words (at + 3 * k) code → Fitting (k + 1)
      fitting_on h e =
          let i : at + 3 * k + 3 ≡ at + 3 * (k + 1) = omega arith in
          let m : n - k - 1 ≡ n - (k + 1) = omega arith in
          one_more h ∙ ap (λ u. u || fits_row words (at + 3 * k + 3) (n - k - 1) code) (sym e) ∙ (λ j. fits_row words (i j) (m j) code)

      pub fitting_none : n ≤ k → false ≡ fits_row words at n code
      unfolding fits_row
      fitting_none h =
          let e : n - k ≡ 0 = omega arith in
          sym (v ∙ ap (λ m. fits_row words (at + 3 * k) m code) e)

-- A ROW AND A CODE

or_false : (t : Bool) → t || false ≡ t
or_false true = refl
or_false false = refl

pub fits_one_lem : (words : List ℕ) (at code : ℕ) (t : Bool) → word words (at + 2) ≡ 1 → t ≡ fits_one words (at + 3) code → t ≡ fits_at words at code
unfolding fits_at fits_row
fits_one_lem words at code t n e = e ∙ sym (or_false (fits_one words (at + 3) code)) ∙ ap (λ n. fits_row words (at + 3) n code) (sym n)
