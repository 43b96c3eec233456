-- The decimal form of a number: how it is made up, and its laws.
use Prim.Native.Nat.{ℕ, zero, suc, ◌+◌, ◌-◌, ◌*◌, ◌/◌, ◌%◌, ◌^◌, ◌≤◌, ◌<◌}
use mathlib.Core.Path.{◌≡◌, refl, sym, ap, ◌∙◌}
use mathlib.Core.List.{List, [], ◌∷◌, ◌++◌}
use mathlib.Core.Bool.{Bool, true, false}
use native.Mathlib.Nat.{div-lt_self, div-lt_iff_lt-mul, mod-lt, div-add-mod', pow-suc}
use native.Mathlib.Omega.{arith}
use borrow.Author.Tests.{ltb-true, ltb-false, lt-ltb, le-ltb}
use lib.Dec.{ltb}
use lib.ListN.{length, length-append}
use Rattle.std.specs.Fmt.{decimal as std_decimal}
use Rattle.std.proofs.lemmas.Fmt.{decimal_by_steps}
use Rattle.format.specs.Format.{choose, All}
use Rattle.keylines.specs.Text.{digit, decimal_in, decimal}
use Rattle.keylines.specs.DecimalLaws.{value_after, Digit, DecimalLaws}

pub tenth_less : (n : ℕ) → 10 ≤ n → n / 10 < n
tenth_less n h = div-lt_self (omega arith) (omega arith)

tenth : (k n : ℕ) → n < suc k → 10 ≤ n → n / 10 < k
tenth k n h t = omega (arith, tenth_less n t)

-- What holds of one digit, and of more digits if it holds of all but the last, holds of a number wherever there is room for it.
module _ (P : ℕ → List ℕ → Type 0) (one : (n : ℕ) → n < 10 → P n (digit n)) (more : (n : ℕ) (s : List ℕ) → 10 ≤ n → P (n / 10) s → P n (s ++ digit (n % 10))) where
  inside : (k n : ℕ) → n < k → P n (decimal_in k n)
  unfolding decimal_in
  inside zero n h = absurd (omega arith)
  inside (suc k) n h = go (ltb n 10) refl (inside k (n / 10))
    where
      go : (t : Bool) → ltb n 10 ≡ t → (n / 10 < k → P (n / 10) (decimal_in k (n / 10))) → P n (choose t (digit n) (decimal_in k (n / 10) ++ digit (n % 10)))
      go true e p = one n (ltb-true n 10 e)
      go false e p = let t = ltb-false n 10 e in more n (decimal_in k (n / 10)) t (p (tenth k n h t))

  pub every : (n : ℕ) → P n (decimal n)
  unfolding decimal
  every n = inside (suc n) n (omega arith)

-- more room changes nothing
Same : ℕ → List ℕ → Type 0
Same n s = (m : ℕ) → n < m → s ≡ decimal_in m n

same_one : (n : ℕ) → n < 10 → Same n (digit n)
unfolding Same decimal_in
same_one n h zero l = absurd (omega arith)
same_one n h (suc m) l = rw (lt-ltb n 10 h)

same_more : (n : ℕ) (s : List ℕ) → 10 ≤ n → Same (n / 10) s → Same n (s ++ digit (n % 10))
unfolding Same decimal_in
same_more n s h p zero l = absurd (omega arith)
same_more n s h p (suc m) l = rw (le-ltb n 10 h) (ap (λ r. r ++ digit (n % 10)) (p m (tenth m n l h)))

pub decimal_one : (n : ℕ) → n < 10 → decimal n ≡ digit n
unfolding Same
decimal_one n h = every Same same_one same_more n (suc n) (omega arith) ∙ sym (same_one n h (suc n) (omega arith))

pub decimal_more : (n : ℕ) → 10 ≤ n → decimal n ≡ decimal (n / 10) ++ digit (n % 10)
unfolding Same
decimal_more n h =
    every Same same_one same_more n (suc n) (omega arith) ∙ sym (same_more n (decimal (n / 10)) h (every Same same_one same_more (n / 10)) (suc n) (omega arith))

-- what the kit writes of a number is its decimal form
pub written_decimal : (n : ℕ) → n < 2 ^ 64 → std_decimal n ≡ decimal n
written_decimal = decimal_by_steps (λ n s. s ≡ decimal n) (λ n h. sym (decimal_one n h)) (λ n s h e. ap (λ t. t ++ digit (n % 10)) e ∙ sym (decimal_more n h))

last_length : (s : List ℕ) (d : ℕ) → length (s ++ digit d) ≡ length s + 1
last_length s d = length-append s (digit d)

-- ---- the laws

is_digit : (d : ℕ) → d < 10 → All Digit (digit d)
is_digit d h = ((omega arith, omega arith), tt)

all_last : (s : List ℕ) (d : ℕ) → All Digit s → d < 10 → All Digit (s ++ digit d)
all_last [] d p h = is_digit d h
all_last (b ∷ s) d p h = (p.0, all_last s d p.1 h)

value_last : (v : ℕ) (s : List ℕ) (d : ℕ) → value_after v (s ++ digit d) ≡ value_after v s * 10 + d
unfolding value_after
value_last v [] d = omega arith
value_last v (b ∷ s) d = value_last (v * 10 + (b - 48)) s d

value_one : (n : ℕ) → n < 10 → value_after 0 (digit n) ≡ n
unfolding value_after
value_one n h = omega arith

Short : ℕ → List ℕ → Type 0
Short n s = (k : ℕ) → 0 < k → n < 10 ^ k → length s ≤ k

short_more : (n : ℕ) (s : List ℕ) → 10 ≤ n → Short (n / 10) s → Short n (s ++ digit (n % 10))
unfolding Short
short_more n s h p zero a b = absurd (omega arith)
short_more n s h p (suc zero) a b = absurd (omega arith)
short_more n s h p (suc (suc k)) a b =
    let q = p (suc k) (omega arith) ((div-lt_iff_lt-mul {k = 10} {y = 10 ^ suc k} (omega arith)).1 (rw (← pow-suc 10 (suc k)) b)) in
    omega (arith, last_length s (n % 10))

pub decimal_some : (n : ℕ) → 0 < length (decimal n)
decimal_some = every (λ n s. 0 < length s) (λ n h. omega arith) (λ n s h p. omega (arith, last_length s (n % 10)))

pub decimal_short : (k n : ℕ) → 0 < k → n < 10 ^ k → length (decimal n) ≤ k
unfolding Short
decimal_short k n = every Short (λ n h k a b. a) short_more n k

pub decimal_laws : DecimalLaws
decimal_laws = record {
  digits = every (λ n s. All Digit s) is_digit (λ n s h p. all_last s (n % 10) p (mod-lt n (omega arith)));
  value = every (λ n s. value_after 0 s ≡ n) value_one (λ n s h p. value_last 0 s (n % 10) ∙ ap (λ v. v * 10 + n % 10) p ∙ div-add-mod' n 10);
  some = decimal_some;
  shortest = decimal_short;
}
