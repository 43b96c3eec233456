-- The end of bytes, and the end of the first line.
use Prim.Native.Nat.{ℕ, zero, suc, ◌+◌, ◌-◌, ◌≤◌, ◌<◌, min}
use mathlib.Core.Path.{◌≡◌, refl, ap}
use mathlib.Core.List.{List, [], ◌∷◌}
use mathlib.Core.Bool.{Bool, true, false}
use mathlib.Core.Logic.{◌⊎◌, inl, inr, ⊎_elim}
use lib.Dec.{eqb}
use lib.ListN.{length, drop, get_or, drop_of_length-le}
use lib.Seq.{drop-cons, drop-drop}
use native.Mathlib.Omega.{arith}
use native.Mathlib.Numerals.{add-one}
use borrow.Author.Tests.{eq-eqb, ne_eqb}
use Rattle.format.specs.Format.{choose}
use Rattle.lines.specs.Lines.{ended, first_line}

pub ended_none : (d : List ℕ) → length d ≡ 0 → true ≡ ended d
unfolding ended
ended_none [] h = refl
ended_none (b ∷ d) h = absurd (omega arith)

pub ended_last : (d : List ℕ) → (length d ≡ 0 → ⊥) → eqb (get_or d (length d - 1) 0) 10 ≡ ended d
unfolding ended
ended_last [] h = absurd (h refl)
ended_last (b ∷ d) h =
    let e : suc (length d) - 1 ≡ length d = omega arith in
    rw e

first_cons : (b : ℕ) (d : List ℕ) (t : Bool) → eqb b 10 ≡ t → first_line (b ∷ d) ≡ choose t [] (b ∷ first_line d)
unfolding first_line
first_cons b d t e = rw e

first_ten : (d : List ℕ) (i : ℕ) → i < length d → get_or d i 0 ≡ 10 → first_line (drop i d) ≡ []
first_ten d i h t = rw (drop-cons d i 0) (first_cons _ _ true (eq-eqb _ _ t))

first_other : (d : List ℕ) (i : ℕ) → i < length d → (get_or d i 0 ≡ 10 → ⊥) → first_line (drop i d) ≡ get_or d i 0 ∷ first_line (drop (i + 1) d)
first_other d i h t = rw (add-one, drop-cons d i 0) (first_cons _ _ false (ne_eqb _ _ t))

first_none : (d : List ℕ) (i : ℕ) → length d ≤ i → first_line (drop i d) ≡ []
unfolding first_line
first_none d i h = rw (drop_of_length-le d h)

-- no byte 10 was met up to i, and e is the end that is right
module _ (d : List ℕ) (i e : ℕ) (h : i + length (first_line (drop i d)) ≡ e) where
  pub end_ten : i < length d → get_or d i 0 ≡ 10 → i ≡ e
  end_ten l t = omega (arith, ap length (first_ten d i l t))

  pub end_other : i < length d → (get_or d i 0 ≡ 10 → ⊥) → i + 1 + length (first_line (drop (i + 1) d)) ≡ e
  end_other l t = omega (arith, ap length (first_other d i l t))

  pub end_none : length d ≤ i → i ≡ e
  end_none l = omega (arith, ap length (first_none d i l))

-- After j bytes of a block from `at`: no byte 10 was met, and first is 128; or the first one was met there.
abbrev pub Met : List ℕ → ℕ → ℕ → ℕ → Type 0
Met d at j first =
    ((first ≡ 128) × (at + j + length (first_line (drop (at + j) d)) ≡ at + length (first_line (drop at d))))
    ⊎ ((first < j) × (first ≡ length (first_line (drop at d))))

module _ (d : List ℕ) (at j first : ℕ) (l : at + j < length d) (h : j < 128) where
  pub met_ten : Met d at j first → get_or d (at + j) 0 ≡ 10 → Met d at (j + 1) (min j first)
  met_ten m t = ⊎_elim (λ w. inr (omega arith, omega (arith, end_ten d (at + j) _ w.1 l t))) (λ w. inr (omega arith, omega arith)) m

  pub met_other : Met d at j first → (get_or d (at + j) 0 ≡ 10 → ⊥) → Met d at (j + 1) (min 128 first)
  met_other m t =
      let next : at + (j + 1) ≡ at + j + 1 = omega arith in
      ⊎_elim (λ w. inl (omega arith, rw next (end_other d (at + j) _ w.1 l t))) (λ w. inr (omega arith, omega arith)) m

first_past : (k : ℕ) (d : List ℕ) → k ≤ length (first_line d) → k + length (first_line (drop k d)) ≡ length (first_line d)
unfolding first_line
first_past zero d h = omega arith
first_past (suc k) [] h = absurd (omega arith)
first_past (suc k) (b ∷ d) h = go (eqb b 10) h (λ q. first_past k d q)
  where
    go : (t : Bool) → suc k ≤ length (choose t [] (b ∷ first_line d)) → (k ≤ length (first_line d) → k + length (first_line (drop k d)) ≡ length (first_line d))
        → suc k + length (first_line (drop k d)) ≡ length (choose t [] (b ∷ first_line d))
    go true q more = absurd (omega arith)
    go false q more = omega (arith, more (omega arith))

-- from i on, the first byte 10 of a block was passed up to, or the whole block
module _ (d : List ℕ) (i e passed : ℕ) (h : i + length (first_line (drop i d)) ≡ e) (f : passed ≡ min 128 (length (first_line (drop i d)))) where
  pub end_past : i + passed + length (first_line (drop (i + passed) d)) ≡ e
  end_past = rw (← drop-drop passed i d) (omega (arith, first_past passed (drop i d) (omega arith)))
