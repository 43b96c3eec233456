-- A byte of eight bits, and a bit added to it.
use Prim.Native.Nat.{ℕ, ◌+◌, ◌-◌, ◌*◌, ◌/◌, ◌%◌, ◌^◌, ◌<◌}
use mathlib.Core.Path.{◌≡◌, refl, sym, ap, ◌∙◌}
use mathlib.Core.Bool.{Bool, true, false}
use native.Mathlib.Nat.{add-mul-div_right, div-eq_of_lt, pow-suc}
use native.Mathlib.Numerals.{add-one}
use native.Mathlib.Omega.{arith}
use borrow.Author.Tests.{eq-eqb, eqb-false, ltb-true, ltb-false}
use lib.Dec.{eqb, ltb, lit<}
use lib.Pow.{pow_pos, pow-add, shl_exact, shr-shr}

pub one_bit : (e : ℕ) → 1 * 2 ^ (e % 8) % 2 ^ 8 ≡ 2 ^ (e % 8)
one_bit e = shl_exact {a = 1} 1 (e % 8) 8 (lit< tt) (omega arith) ∙ (let z : 1 * 2 ^ (e % 8) ≡ 2 ^ (e % 8) = omega arith in z)

-- no bit from k on
pub left_here : (x k : ℕ) → x < 2 ^ k → eqb (x / 2 ^ k % 2) 1 ≡ false
left_here x k h = rw (div-eq_of_lt h)

-- a bit k that x does not have is added to x, and changes no other
module _ (x k : ℕ) (free : eqb (x / 2 ^ k % 2) 1 ≡ false) where
  shifted : (x + 2 ^ k) / 2 ^ k ≡ x / 2 ^ k + 1
  shifted = ap (λ y. (x + y) / 2 ^ k) (let z : 2 ^ k ≡ 1 * 2 ^ k = omega arith in z) ∙ add-mul-div_right x 1 (pow_pos k)

  pub added_here : eqb ((x + 2 ^ k) / 2 ^ k % 2) 1 ≡ true
  added_here =
      let f = eqb-false (x / 2 ^ k % 2) 1 free in
      let s : (x / 2 ^ k + 1) % 2 ≡ 1 = omega (arith, f) in
      rw shifted (eq-eqb ((x / 2 ^ k + 1) % 2) 1 s)

  added_below : (j : ℕ) → j < k → (x + 2 ^ k) / 2 ^ j % 2 ≡ x / 2 ^ j % 2
  added_below j l =
      let m = k - (j + 1) in
      let s : k ≡ m + 1 + j = omega arith in
      let p : 2 ^ k ≡ (2 ^ m * 2) * 2 ^ j = ap (λ i. 2 ^ i) s ∙ pow-add 2 (m + 1) j ∙ ap (λ y. y * 2 ^ j) (ap (λ i. 2 ^ i) (add-one m) ∙ pow-suc 2 m) in
      let d : (x + 2 ^ k) / 2 ^ j ≡ x / 2 ^ j + 2 ^ m * 2 = ap (λ y. (x + y) / 2 ^ j) p ∙ add-mul-div_right x (2 ^ m * 2) (pow_pos j) in
      ap (λ y. y % 2) d ∙ (let q : (x / 2 ^ j + 2 ^ m * 2) % 2 ≡ x / 2 ^ j % 2 = omega arith in q)

  added_above : (j : ℕ) → k < j → (x + 2 ^ k) / 2 ^ j ≡ x / 2 ^ j
  added_above j l =
      let m = j - (k + 1) in
      let s : k + 1 + m ≡ j = omega arith in
      let f = eqb-false (x / 2 ^ k % 2) 1 free in
      let half : (x / 2 ^ k + 1) / 2 ≡ x / 2 ^ k / 2 = omega (arith, f) in
      let up : (x + 2 ^ k) / 2 ^ (k + 1) ≡ x / 2 ^ (k + 1) = sym (shr-shr (x + 2 ^ k) k 1) ∙ ap (λ y. y / 2 ^ 1) shifted ∙ half ∙ shr-shr x k 1 in
      rw (← s) (sym (shr-shr (x + 2 ^ k) (k + 1) m) ∙ ap (λ y. y / 2 ^ m) up ∙ shr-shr x (k + 1) m)

  pub added_other : (j : ℕ) → (j ≡ k → ⊥) → (x + 2 ^ k) / 2 ^ j % 2 ≡ x / 2 ^ j % 2
  added_other j z = go (ltb j k) refl
    where
      go : (t : Bool) → ltb j k ≡ t → (x + 2 ^ k) / 2 ^ j % 2 ≡ x / 2 ^ j % 2
      go true q = added_below j (ltb-true j k q)
      go false q = let l = ltb-false j k q in ap (λ y. y % 2) (added_above j (omega (arith, z)))

  -- it stays a byte
  added_fits : k < 8 → x < 256 → x + 2 ^ k < 256
  added_fits l h =
      let z : (x + 2 ^ k) / 2 ^ 8 ≡ 0 = added_above 8 l ∙ div-eq_of_lt h in
      omega (arith, z)

pub one_more : (x e : ℕ) → x < 256 → eqb (x / 2 ^ (e % 8) % 2) 1 ≡ false → x + 1 * 2 ^ (e % 8) % 2 ^ 8 < 256
one_more x e h free = omega (arith, one_bit e, added_fits x (e % 8) free (omega arith) h)
