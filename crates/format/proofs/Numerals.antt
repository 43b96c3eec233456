-- A numeral is delimited and exact where its digits are: each digit is limited to what can still become a number of the range.
use Prim.Native.Nat.{ℕ, suc, ◌+◌, ◌-◌, ◌*◌, ◌/◌, ◌%◌, ◌≤◌, ◌<◌, min}
use mathlib.Core.List.{List, [], ◌∷◌}
use mathlib.Core.Path.{◌≡◌, refl, ap, ◌∙◌}
use native.Mathlib.Omega.{arith}
use native.Mathlib.Nat.{mod-lt, div-add-mod', div-eq_of_lt, div-mul-le_self, mul-add-div_right, mul-add-mod_self_right, mod-eq_of_lt, mul-le-mul_right, suc-mul, lt_of_mul-lt-mul_right}
use Rattle.format.specs.Format.{Format, sequence}
use Rattle.format.specs.Numeral.{Range, numeral, Weights}
use Rattle.format.proofs.Delimited.{Strict, sequence_strict, mapped_strict}

-- a digit up to top
abbrev pub Digit : ℕ → (ℕ → ℕ → Format ℕ) → Type 0
Digit top f = (lo hi : ℕ) → lo ≤ hi → hi ≤ top → Strict 1 (f lo hi)

div_mono : (p a b : ℕ) → 1 ≤ p → a ≤ b → a / p ≤ b / p
div_mono p a b k h =
    let x : a / p * p ≤ a = div-mul-le_self a p in
    let y : b / p * p + b % p ≡ b = div-add-mod' b p in
    let z : b % p < p = mod-lt b k in
    let s : suc (b / p) * p ≡ b / p * p + p = suc-mul (b / p) p in
    let t : a / p * p < suc (b / p) * p = omega arith in
    let u : a / p < suc (b / p) = lt_of_mul-lt-mul_right p t in
    omega arith

pub less : (a b : ℕ) (ps : List ℕ) (m n : ℕ) → m ≤ n → Weights a b n ps → Weights a b m ps
less a b [] m n h k = omega arith
less a b (p ∷ ps) m n h k = (k.0, omega (arith, div_mono p m n k.0 h, k.1), k.2)

-- what a digit of lo / p to hi / p leaves
pub record Left (p lo hi d : ℕ) : Type 0 where
  pub under : d * p ≤ hi
  pub over : lo < d * p + p

pub left : (p lo hi d : ℕ) → 1 ≤ p → lo / p ≤ d → d ≤ hi / p → Left p lo hi d
left p lo hi d k a b =
    let x : d * p ≤ hi / p * p = mul-le-mul_right p b in
    let y : lo / p * p ≤ d * p = mul-le-mul_right p a in
    record {
      under = omega (arith, x, div-mul-le_self hi p);
      over = omega (arith, y, div-add-mod' lo p, mod-lt lo k);
    }

over_div : (p d n : ℕ) → n < p → (d * p + n) / p ≡ d
over_div p d n h = mul-add-div_right (omega arith) d n ∙ ap (λ k. d + k) (div-eq_of_lt h) ∙ omega arith

over_mod : (p d n : ℕ) → n < p → (d * p + n) % p ≡ n
over_mod p d n h = mul-add-mod_self_right d p n ∙ mod-eq_of_lt h

-- the values of a digit are those of lo to hi
abbrev pub Ranged : (ℕ → ℕ → Format ℕ) → Type 1
Ranged f = (lo hi : ℕ) → (f lo hi).Valid ≡ Range lo hi

-- and so are those of a numeral, whatever the weights
pub numeral_range : (f g : ℕ → ℕ → Format ℕ) → Ranged f → Ranged g → (ps : List ℕ) → Ranged (numeral f g ps)
numeral_range f g r q [] lo hi = r lo hi
numeral_range f g r q (p ∷ ps) lo hi = refl

pub numeral_strict : (a b : ℕ) (f g : ℕ → ℕ → Format ℕ) → Ranged f → Ranged g → Digit a f → Digit b g → (ps : List ℕ) (lo hi : ℕ)
    → lo ≤ hi → Weights a b hi ps → Strict 1 (numeral f g ps lo hi)
numeral_strict a b f g rf rg df dg [] lo hi h k = df lo hi h k
numeral_strict a b f g rf rg df dg (p ∷ ps) lo hi h k =
    let ok_f : (d : ℕ) → (f (lo / p) (hi / p)).Valid d → Range (lo / p) (hi / p) d = λ d ok. rw (rf (lo / p) (hi / p)) at ok in
    let ok-g : (d n : ℕ) → (numeral g g ps (lo - d * p) (min (p - 1) (hi - d * p))).Valid n → Range (lo - d * p) (min (p - 1) (hi - d * p)) n =
    λ d n ok. rw (numeral_range g g rg rg ps (lo - d * p) (min (p - 1) (hi - d * p))) at ok in
    mapped_strict 1 (sequence (f (lo / p) (hi / p)) λ d. numeral g g ps (lo - d * p) (min (p - 1) (hi - d * p)))
    (λ q. q.0 * p + q.1) (λ n. (n / p, n % p)) (Range lo hi)
    (sequence_strict 1 (f (lo / p) (hi / p)) (λ d. numeral g g ps (lo - d * p) (min (p - 1) (hi - d * p)))
    (df (lo / p) (hi / p) (div_mono p lo hi k.0 h) k.1)
    λ d ok.
    let l = left p lo hi d k.0 (ok_f d ok).0 (ok_f d ok).1 in
    numeral_strict b b g g rg rg dg dg ps (lo - d * p) (min (p - 1) (hi - d * p)) (omega (arith, l.under, l.over, k.0))
    (less b b ps (min (p - 1) (hi - d * p)) (p - 1) (omega arith) k.2))
    (record {
      good = λ q ok.
          let o = ok_f q.0 ok.0 in
          let l = left p lo hi q.0 k.0 o.0 o.1 in
          let r = ok-g q.0 q.1 ok.1 in
          (omega (arith, r.0), omega (arith, r.1, l.under));
      back = λ q ok.
          let r = ok-g q.0 q.1 ok.1 in
          let z : q.1 < p = omega (arith, r.1, k.0) in
          λ i. (over_div p q.0 q.1 z i, over_mod p q.0 q.1 z i);
      sound = λ n ok.
          let e : n / p * p + n % p ≡ n = div-add-mod' n p in
          let z : n % p < p = mod-lt n k.0 in (
            rw (rf (lo / p) (hi / p)) (div_mono p lo n k.0 ok.0, div_mono p n hi k.0 ok.1),
            rw (numeral_range g g rg rg ps (lo - n / p * p) (min (p - 1) (hi - n / p * p))) (omega (arith, ok.0), omega (arith, ok.1)),
          );
      forth = λ n ok. div-add-mod' n p;
    })
