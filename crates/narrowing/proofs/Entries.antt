-- What a test keeps of 1 to n, entry by entry.
use Prim.Native.Nat.{ℕ, zero, suc, ◌+◌, ◌-◌, ◌≤◌, ◌<◌}
use mathlib.Core.Path.{◌≡◌, refl, sym, ap, ◌∙◌}
use mathlib.Core.List.{[], ◌∷◌, ◌++◌, append-nil}
use mathlib.Core.Bool.{Bool, true, false}
use native.Mathlib.Nat.{add-zero}
use native.Mathlib.Numerals.{add-one}
use native.Mathlib.Omega.{arith}
use lib.ListN.{length, length-append}
use Rattle.format.specs.Format.{choose, keep}
use Rattle.narrowing.specs.Narrowing.{entries_from, up_to}
use Rattle.format.proofs.Keeping.{keep_length, keep_more}
use Rattle.narrowing.proofs.Rising.{up_to_length, up_to_last}

module _ (test : ℕ → Bool) (e : ℕ) where
  up_to_keep : keep test (up_to (e + 1)) ≡ keep test (up_to e) ++ choose (test (e + 1)) ((e + 1) ∷ []) []
  up_to_keep = rw (add-one, up_to_last e) (keep_more test (up_to e) (suc e))

  pub up_to_kept : test (e + 1) ≡ true → keep test (up_to (e + 1)) ≡ keep test (up_to e) ++ ((e + 1) ∷ [])
  up_to_kept t = up_to_keep ∙ rw t

  pub up_to_left : test (e + 1) ≡ false → keep test (up_to (e + 1)) ≡ keep test (up_to e)
  up_to_left t = up_to_keep ∙ rw t (append-nil _)

  keep_grows : length (keep test (up_to e)) ≤ length (keep test (up_to (e + 1)))
  keep_grows = omega (arith, ap length up_to_keep, length-append (keep test (up_to e)) (choose (test (e + 1)) ((e + 1) ∷ []) []))

keep_most : (test : ℕ → Bool) (e m : ℕ) → length (keep test (up_to e)) ≤ length (keep test (up_to (e + m)))
keep_most test e zero = rw (add-zero e) (omega arith)
keep_most test e (suc m) =
    let s : e + m + 1 ≡ e + suc m = omega arith in
    omega (arith, keep_most test e m, keep_grows test (e + m), ap (λ i. length (keep test (up_to i))) s)

-- k of the first e entries pass
pub record Passed (test : ℕ → Bool) (k e : ℕ) : Type 0 where
  pub is : k ≡ length (keep test (up_to e))

pub passed_start : (test : ℕ → Bool) → Passed test 0 0
unfolding entries_from keep
passed_start test = record { is = refl }

module _ {test : ℕ → Bool} {k e : ℕ} (c : Passed test k e) where
  pub passed_few : k ≤ e
  passed_few = omega (arith, c.is, keep_length test (up_to e), up_to_length e)

  pub passed_in : test (e + 1) ≡ true → Passed test (k + 1) (e + 1)
  passed_in t = record { is = omega (arith, c.is, ap length (up_to_kept test e t), length-append (keep test (up_to e)) ((e + 1) ∷ [])) }

  pub passed_out : test (e + 1) ≡ false → Passed test k (e + 1)
  passed_out t = record { is = c.is ∙ ap length (sym (up_to_left test e t)) }

  -- of n entries one more passes
  pub passed_room : (n : ℕ) → e < n → test (e + 1) ≡ true → k < length (keep test (up_to n))
  passed_room n h t =
      let m : e + 1 + (n - (e + 1)) ≡ n = omega arith in
      let i = passed_in t in
      omega (arith, i.is, keep_most test (e + 1) (n - (e + 1)), ap (λ i. length (keep test (up_to i))) m)

  pub passed_end : (n : ℕ) → e ≤ n → n ≤ e → k ≡ length (keep test (up_to n))
  passed_end n l h = let s : e ≡ n = omega arith in c.is ∙ ap (λ m. length (keep test (up_to m))) s
