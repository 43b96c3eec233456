-- The codings of single units: bytes, digits, markers, characters.
use Prim.Native.Nat.{ℕ, zero, suc, ◌+◌, ◌-◌, ◌*◌, ◌/◌, ◌%◌, ◌≤◌, ◌<◌}
use mathlib.Core.List.{List, [], ◌∷◌}
use mathlib.Core.Path.{◌≡◌, refl, sym, ap, ◌∙◌}
use mathlib.Core.Bool.{Bool, true, false}
use lib.Dec.{eqb, ltb}
use lib.ListN.{length}
use native.Mathlib.Omega.{arith}
use borrow.Author.Tests.{eq-eqb, lt-ltb, le-ltb, ltb-true, ltb-false, eqb-true}
use Rattle.format.specs.Format.{choose, unit}
use Rattle.format.specs.Numeral.{Range}
use Rattle.format.proofs.Lawful.{Lawful}
use Rattle.format.proofs.Exact.{Exact}
use Rattle.format.proofs.ExactParts.{mapped_exact}
use Rattle.format.proofs.Unit.{Coding, unit_exact}
use Rattle.charset.specs.Bytes.{digit_of, digit_byte, marker_of, marker_byte, byte_of, scalar_of, utf8, byte, digit, letter, character}

pub by_test {ℓ κ} : {A : Type ℓ} (P : A → Type κ) (t : Bool) {a b : A} → (t ≡ true → P a) → (t ≡ false → P b) → P (choose t a b)
by_test P true f g = f refl
by_test P false f g = g refl

pub digit_of_byte : (d : ℕ) → d < 16 → digit_of (digit_byte d) ≡ d
unfolding digit_of
digit_of_byte d h =
    by_test (λ b. digit_of b ≡ d) (ltb d 10)
    (λ e. let k : d < 10 = ltb-true d 10 e in
    rw (le-ltb (48 + d) 48 (omega arith), lt-ltb (48 + d) 58 (omega arith)) (omega arith))
    (λ e. let k : 10 ≤ d = ltb-false d 10 e in
    rw (le-ltb (87 + d) 48 (omega arith), le-ltb (87 + d) 58 (omega arith), le-ltb (87 + d) 97 (omega arith), lt-ltb (87 + d) 103 (omega arith)) (omega arith))

pub byte_of_digit : (b : ℕ) → digit_of b < 16 → digit_byte (digit_of b) ≡ b
unfolding digit_of
byte_of_digit b =
    by_test P (ltb b 48) (λ e h. absurd (omega arith)) λ e₁.
    by_test P (ltb b 58) (λ e h. rw (lt-ltb (b - 48) 10 (omega (arith, ltb-true b 58 e))) (omega (arith, ltb-false b 48 e₁))) λ e₂.
    by_test P (ltb b 97) (λ e h. absurd (omega arith)) λ e₃.
    by_test P (ltb b 103) (λ e h. rw (le-ltb (b - 87) 10 (omega (arith, ltb-false b 97 e₃))) (omega (arith, ltb-false b 97 e₃))) λ e₄ h. absurd (omega arith)
  where
    P : ℕ → Type 0
    P n = n < 16 → digit_byte n ≡ b

pub marker_of_byte : (m : ℕ) → m ≤ 4 → marker_of (marker_byte m) ≡ m
unfolding marker_of
marker_of_byte zero h = refl
marker_of_byte (suc zero) h = refl
marker_of_byte (suc (suc zero)) h = refl
marker_of_byte (suc (suc (suc zero))) h = refl
marker_of_byte (suc (suc (suc (suc zero)))) h = refl
marker_of_byte (suc (suc (suc (suc (suc m))))) h = absurd (omega arith)

pub byte_of_marker : (b : ℕ) → marker_of b ≤ 4 → marker_byte (marker_of b) ≡ b
unfolding marker_of
byte_of_marker b =
    by_test P (eqb b 65) (λ e h. sym (eqb-true b 65 e)) λ _.
    by_test P (eqb b 66) (λ e h. sym (eqb-true b 66 e)) λ _.
    by_test P (eqb b 76) (λ e h. sym (eqb-true b 76 e)) λ _.
    by_test P (eqb b 77) (λ e h. sym (eqb-true b 77 e)) λ _.
    by_test P (eqb b 82) (λ e h. sym (eqb-true b 82 e)) λ _ h. absurd (omega arith)
  where
    P : ℕ → Type 0
    P n = n ≤ 4 → marker_byte n ≡ b

-- a coding of single bytes
bytes : (of to : ℕ → ℕ) (lo hi : ℕ) → lo ≤ hi → ((v : ℕ) → v ≤ hi → of (to v) ≡ v) → ((b : ℕ) → of b ≤ hi → to (of b) ≡ b)
    → Coding 1 (byte_of of) (λ v. to v ∷ []) lo hi
bytes of to lo hi k reads writes = record {
  least = k;
  size = λ v a b. refl;
  reads = λ v a b. reads v b;
  writes = one;
}
  where
    one : (u : List ℕ) → length u ≡ 1 → lo ≤ byte_of of u → byte_of of u ≤ hi → to (byte_of of u) ∷ [] ≡ u
    one [] e a b = absurd (omega arith)
    one (x ∷ []) e a b = ap (λ n. n ∷ []) (writes x b)
    one (x ∷ y ∷ t) e a b = absurd (omega arith)

pub byte_exact : (b : ℕ) → Exact 1 (byte b)
byte_exact b = unit_exact 1 (byte_of λ a. a) (λ a. a ∷ []) b b (bytes (λ a. a) (λ a. a) b b (omega arith) (λ v k. refl) (λ v k. refl)) (omega arith)

pub digit_exact : (lo hi : ℕ) → lo ≤ hi → hi ≤ 15 → Exact 1 (digit lo hi)
digit_exact lo hi k h =
    unit_exact 1 (byte_of digit_of) (λ d. digit_byte d ∷ []) lo hi
    (bytes digit_of digit_byte lo hi k (λ v j. digit_of_byte v (omega arith)) (λ b j. byte_of_digit b (omega arith))) (omega arith)

pub letter_exact : (lo hi : ℕ) → lo ≤ hi → hi ≤ 4 → Exact 1 (letter lo hi)
letter_exact lo hi k h =
    unit_exact 1 (byte_of marker_of) (λ m. marker_byte m ∷ []) lo hi
    (bytes marker_of (λ m. marker_byte m) lo hi k (λ v j. marker_of_byte v (omega arith)) (λ b j. byte_of_marker b (omega arith))) (omega arith)

pub letter_lawful : (lo hi : ℕ) → lo ≤ hi → hi ≤ 4 → Lawful 1 (letter lo hi)
letter_lawful lo hi k h = (letter_exact lo hi k h).lawful

six : (r : ℕ) → r < 64 → (128 + r) % 64 ≡ r
six r h = omega arith

three : (q : ℕ) → q < 8 → (240 + q) % 8 ≡ q
three q h = omega arith

by_64 : (v : ℕ) → v / 4096 ≡ v / 64 / 64
by_64 v = omega arith

by_4096 : (v : ℕ) → v / 262144 ≡ v / 4096 / 64
by_4096 v = omega arith

split : (a : ℕ) → a / 64 * 64 + a % 64 ≡ a
split a = omega arith

join : (v c b a : ℕ) → a * 64 + v % 64 ≡ v → b * 64 + a % 64 ≡ a → c * 64 + b % 64 ≡ b
    → c * 262144 + b % 64 * 4096 + a % 64 * 64 + v % 64 ≡ v
join v c b a p q r = omega arith

digits_64 : (v : ℕ) → v / 262144 * 262144 + v / 4096 % 64 * 4096 + v / 64 % 64 * 64 + v % 64 ≡ v
digits_64 v =
    rw (by_4096 v, by_64 v)
    (join v (v / 64 / 64 / 64) (v / 64 / 64) (v / 64) (split v) (split (v / 64)) (split (v / 64 / 64)))

pub scalar_utf8 : (v : ℕ) → v < 2097152 → scalar_of (utf8 v) ≡ v
unfolding scalar_of
scalar_utf8 v h =
    rw (
      eq-eqb ((240 + v / 262144) / 8) 30 (omega arith),
      eq-eqb ((128 + v / 4096 % 64) / 64) 2 (omega arith),
      eq-eqb ((128 + v / 64 % 64) / 64) 2 (omega arith),
      eq-eqb ((128 + v % 64) / 64) 2 (omega arith),
      three (v / 262144) (omega arith),
      six (v / 4096 % 64) (omega arith),
      six (v / 64 % 64) (omega arith),
      six (v % 64) (omega arith),
    )
    (digits_64 v)

part_1 : (p q r t : ℕ) → q < 64 → r < 64 → t < 64 → (p * 262144 + q * 4096 + r * 64 + t) / 262144 ≡ p
part_1 p q r t a b c = omega arith

over_64 : (n t : ℕ) → t < 64 → (n * 64 + t) / 64 ≡ n
over_64 n t h = omega arith

rest_64 : (n t : ℕ) → t < 64 → (n * 64 + t) % 64 ≡ t
rest_64 n t h = omega arith

over_4096 : (n r t : ℕ) → r < 64 → t < 64 → (n * 4096 + r * 64 + t) / 4096 ≡ n
over_4096 n r t h k = omega arith

-- the four bytes of a code point are those that it was read from
pub utf8_of : (a b c d : ℕ) → a / 8 ≡ 30 → b / 64 ≡ 2 → c / 64 ≡ 2 → d / 64 ≡ 2
    → utf8 (a % 8 * 262144 + b % 64 * 4096 + c % 64 * 64 + d % 64) ≡ a ∷ b ∷ c ∷ d ∷ []
utf8_of a b c d p q r t =
    let e₃ : a % 8 * 262144 + b % 64 * 4096 + c % 64 * 64 + d % 64 ≡ (a % 8 * 4096 + b % 64 * 64 + c % 64) * 64 + d % 64 = omega arith in
    let e₂ : a % 8 * 262144 + b % 64 * 4096 + c % 64 * 64 + d % 64 ≡ (a % 8 * 64 + b % 64) * 4096 + c % 64 * 64 + d % 64 = omega arith in
    let x₁ : (a % 8 * 262144 + b % 64 * 4096 + c % 64 * 64 + d % 64) / 262144 ≡ a % 8 = part_1 (a % 8) (b % 64) (c % 64) (d % 64) (omega arith) (omega arith) (omega arith) in
    let x₂ : (a % 8 * 262144 + b % 64 * 4096 + c % 64 * 64 + d % 64) / 4096 ≡ a % 8 * 64 + b % 64 = ap (λ n. n / 4096) e₂ ∙ over_4096 (a % 8 * 64 + b % 64) (c % 64) (d % 64) (omega arith) (omega arith) in
    let x₃ : (a % 8 * 262144 + b % 64 * 4096 + c % 64 * 64 + d % 64) / 64 ≡ (a % 8 * 64 + b % 64) * 64 + c % 64 = ap (λ n. n / 64) e₃ ∙ over_64 (a % 8 * 4096 + b % 64 * 64 + c % 64) (d % 64) (omega arith) ∙ omega arith in
    let x₄ : (a % 8 * 262144 + b % 64 * 4096 + c % 64 * 64 + d % 64) % 64 ≡ d % 64 = ap (λ n. n % 64) e₃ ∙ rest_64 (a % 8 * 4096 + b % 64 * 64 + c % 64) (d % 64) (omega arith) in
    let y₂ : (a % 8 * 64 + b % 64) % 64 ≡ b % 64 = rest_64 (a % 8) (b % 64) (omega arith) in
    let y₃ : ((a % 8 * 64 + b % 64) * 64 + c % 64) % 64 ≡ c % 64 = rest_64 (a % 8 * 64 + b % 64) (c % 64) (omega arith) in
    let z₁ : 240 + a % 8 ≡ a = omega arith in
    let z₂ : 128 + b % 64 ≡ b = omega arith in
    let z₃ : 128 + c % 64 ≡ c = omega arith in
    let z₄ : 128 + d % 64 ≡ d = omega arith in
    rw (x₁, x₂, x₃, x₄, y₂, y₃, z₁, z₂, z₃, z₄)

scalar_inv : (a b c d : ℕ) → 0 < scalar_of (a ∷ b ∷ c ∷ d ∷ []) → utf8 (scalar_of (a ∷ b ∷ c ∷ d ∷ [])) ≡ a ∷ b ∷ c ∷ d ∷ []
unfolding scalar_of
scalar_inv a b c d =
    by_test P (eqb (a / 8) 30) (λ e₁.
    by_test P (eqb (b / 64) 2) (λ e₂.
    by_test P (eqb (c / 64) 2) (λ e₃.
    by_test P (eqb (d / 64) 2) (λ e₄ f. utf8_of a b c d (eqb-true _ _ e₁) (eqb-true _ _ e₂) (eqb-true _ _ e₃) (eqb-true _ _ e₄))
    (λ e f. absurd (omega arith))) (λ e f. absurd (omega arith))) (λ e f. absurd (omega arith))) (λ e f. absurd (omega arith))
  where
    P : ℕ → Type 0
    P n = 0 < n → utf8 n ≡ a ∷ b ∷ c ∷ d ∷ []

four : (lo hi : ℕ) → 0 < lo → (u : List ℕ) → length u ≡ 4 → lo ≤ scalar_of u → scalar_of u ≤ hi → utf8 (scalar_of u) ≡ u
four lo hi k [] e a b = absurd (omega arith)
four lo hi k (w ∷ []) e a b = absurd (omega arith)
four lo hi k (w ∷ x ∷ []) e a b = absurd (omega arith)
four lo hi k (w ∷ x ∷ y ∷ []) e a b = absurd (omega arith)
four lo hi k (w ∷ x ∷ y ∷ z ∷ []) e a b = scalar_inv w x y z (omega arith)
four lo hi k (w ∷ x ∷ y ∷ z ∷ v ∷ t) e a b = absurd (omega arith)

pub character_exact : (from lo hi : ℕ) → 0 < from → lo ≤ hi → from + hi < 2097152 → Exact 4 (character from lo hi)
character_exact from lo hi p k h =
    mapped_exact 4 (unit 4 scalar_of utf8 (from + lo) (from + hi)) (λ c. c - from) (λ n. from + n) (Range lo hi)
    (unit_exact 4 scalar_of utf8 (from + lo) (from + hi)
    (record {
      least = omega arith;
      size = λ v a b. refl;
      reads = λ v a b. scalar_utf8 v (omega arith);
      writes = four (from + lo) (from + hi) (omega arith);
    }) (omega arith))
    (record {
      good = λ a ok. (omega (arith, ok.0), omega (arith, ok.1));
      back = λ a ok. omega (arith, ok.0);
      sound = λ b ok. (omega (arith, ok.0), omega (arith, ok.1));
      forth = λ b ok. omega arith;
    })
