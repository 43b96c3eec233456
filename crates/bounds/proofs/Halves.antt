-- A whole number below 2 ^ 24 over 2 ^ k is an f32 exactly; for k = 1, its f32 sum with itself is the whole number.
use Prim.Native.Nat.{ℕ, suc, ◌+◌, ◌-◌, ◌*◌, ◌^◌, ◌≤◌, ◌<◌}
use mathlib.Core.Path.{◌≡◌, sym, ap, ◌∙◌}
use mathlib.Core.Bool.{true, false, true≢false}
use native.Mathlib.Nat.{mul_assoc, two-mul, mul_comm, mul-one, mul-pos, zero-lt-suc, le_of_lt, lt_of_lt_of_le}
use native.Mathlib.Omega.{arith}
use lib.Dec.{lit≤}
use lib.IntN.{pos, negsuc}
use lib.Pow.{pow-add, pow_pos, pow_mono, shl_lt}
use lib.Ieee.{Float, nan, inf, fin, binary32, up, down, round, sum, add, mul, of_int}
use lib.Ieee.Back.{round_whole}
use lib.Ieee.Digits.{back}
use lib.Ieee.Exact.{HasValue, round_exact}
use lib.Ieee.Fits.{down_pos}
use lib.Ieee.Scale.{round_same}
use Rattle.bounds.specs.Centre.{half, IsHalf}

-- the f32 nearest to n / 2 ^ k
abbrev part : ℕ → ℕ → Float
part n k = round binary32 false n (2 ^ k)

room : (k : ℕ) → 24 + (149 - k) ≤ 149 + 128
room k = omega arith

part_value : (n k : ℕ) → n < 2 ^ 24 → k ≤ 149 → HasValue (part n k) false n (2 ^ k)
part_value n k small h =
    round_exact binary32 false n (2 ^ k) n (149 - k) (pow_pos k) small
    (lt_of_lt_of_le (shl_lt 24 (149 - k) small) (pow_mono (room k)))
    (sym (mul_assoc n (2 ^ (149 - k)) (2 ^ k) ∙ ap (λ x. n * x) (sym (pow-add 2 (149 - k) k) ∙ ap (λ x. 2 ^ x) (back 149 k h))))

-- a whole number times the f32 2 ^ -(j + 1)
times_value : (x : Float) (n j : ℕ) → HasValue x false n 1 → mul binary32 x (fin false 1 (negsuc j)) ≡ part n (suc j)
unfolding mul
times_value nan n j v = absurd v
times_value (inf t) n j v = absurd v
times_value (fin true m e) n j v = absurd (true≢false v.0)
times_value (fin false m e) n j v =
    round_same binary32 false (m * up e * (1 * 1)) (down e * 2 ^ suc j) n (2 ^ suc j) (mul-pos (down_pos e) (pow_pos (suc j))) (pow_pos (suc j))
    (ap (λ x. x * 2 ^ suc j) v.1 ∙ mul_assoc n (down e) (2 ^ suc j))

pub times_part : (n j : ℕ) → n < 2 ^ 24 → mul binary32 (of_int binary32 (pos n)) (fin false 1 (negsuc j)) ≡ part n (suc j)
unfolding of_int
times_part n j h = times_value (round binary32 false n 1) n j (round_whole binary32 false n (le_of_lt h))

double : (a d n : ℕ) → a * 2 ≡ n * d → (a * d + a * d) * 1 ≡ n * (d * d)
double a d n h =
    mul-one (a * d + a * d) ∙ sym (two-mul (a * d)) ∙ sym (mul_assoc 2 a d) ∙ ap (λ x. x * d) (mul_comm 2 a ∙ h) ∙ mul_assoc n d d

twice_value : (x : Float) (n : ℕ) → HasValue x false n 2 → add binary32 x x ≡ of_int binary32 (pos n)
unfolding add sum of_int
twice_value nan n v = absurd v
twice_value (inf t) n v = absurd v
twice_value (fin true m e) n v = absurd (true≢false v.0)
twice_value (fin false m e) n v =
    round_same binary32 false (m * up e * down e + m * up e * down e) (down e * down e) n 1 (mul-pos (down_pos e) (down_pos e)) (zero-lt-suc 0)
    (double (m * up e) (down e) n v.1)

pub half_exact : (n : ℕ) → n < 2 ^ 24 → IsHalf (half n) n
half_exact n h = let v = part_value n 1 h (lit≤ tt) in record { value = v; twice = twice_value (half n) n v }
