-- Numbers, symbol keys and the null symbol in FSW are delimited and exact.
use Prim.Native.Nat.{ℕ, zero, suc, ◌+◌, ◌-◌, ◌*◌, ◌/◌, ◌%◌, ◌≤◌, ◌<◌, min}
use mathlib.Core.List.{List, [], ◌∷◌, ◌++◌}
use mathlib.Core.Path.{◌≡◌, refl, sym, ap, ◌∙◌}
use mathlib.Core.Logic.{◌⊎◌, inl, inr}
use lib.ListN.{length, drop}
use native.Mathlib.Omega.{arith}
use Rattle.format.specs.Format.{other, Format, first, second, sequence, either, atomic}
use Rattle.format.specs.Numeral.{Range}
use Rattle.format.proofs.Sequence.{sequence_other}
use Rattle.format.proofs.Parts.{mapped_other}
use Rattle.format.proofs.Delimited.{Delimited, atomic_delimited, Strict, sequence_strict, mapped_strict, either_strict}
use Rattle.format.proofs.Unit.{unit_above}
use Rattle.charset.specs.Bytes.{byte_of, digit_of, digit_byte, digit, digits}
use Rattle.charset.specs.Tokens.{base, turn, key_of, parts_of, key, null, of_either, to_either, null_or_key, last_code, fsw_number}
use Rattle.charset.proofs.Coding.{digit_of_byte}
use Rattle.charset.proofs.Units.{digits_strict}

pub number_strict : Strict 1 fsw_number
number_strict = digits_strict (100 ∷ 10 ∷ []) 250 749 (omega arith) (omega arith, omega arith, (omega arith, omega arith, omega arith))

-- as it is told, at its first byte
pub number_delimited : Delimited 1 (atomic fsw_number)
number_delimited = atomic_delimited 1 fsw_number number_strict.delimited

pub base_strict : (lo hi : ℕ) → lo ≤ hi → hi < 4096 → Strict 1 (base lo hi)
base_strict lo hi h k = digits_strict (256 ∷ 16 ∷ []) lo hi h (omega arith, omega arith, (omega arith, omega arith, omega arith))

pub base_delimited : (lo hi : ℕ) → lo ≤ hi → hi < 4096 → Delimited 1 (base lo hi)
base_delimited lo hi h k = (base_strict lo hi h k).delimited

turn_strict : (hi : ℕ) → hi < 256 → Strict 1 (turn hi)
turn_strict hi k = digits_strict (16 ∷ []) 0 hi (omega arith) (omega arith, omega arith, omega arith)

over_96 : (b t : ℕ) → t ≤ 95 → (b * 96 + t + 1 - 1) / 96 ≡ b
over_96 b t h = omega arith

rest_96 : (b t : ℕ) → t ≤ 95 → (b * 96 + t + 1 - 1) % 96 ≡ t
rest_96 b t h = omega arith

split_96 : (c : ℕ) → c / 96 * 96 + c % 96 ≡ c
split_96 c = omega arith

pub parts_of_key : (b t : ℕ) → 0x100 ≤ b → t ≤ 95 → parts_of (key_of (b, t)) ≡ (b, t)
parts_of_key b t h k =
    let x : 0x100 + ((b - 0x100) * 96 + t + 1 - 1) / 96 ≡ b = omega (arith, over_96 (b - 0x100) t k) in
    λ i. (x i, rest_96 (b - 0x100) t k i)

pub key_strict : (top : ℕ) → 0x100 ≤ top → top ≤ 0x38b → Strict 1 (key top)
key_strict top lo hi =
    mapped_strict 1 (sequence (base 0x100 top) λ b. turn 0x5f) key_of parts_of (Range 1 (last_code top))
    (sequence_strict 1 (base 0x100 top) (λ b. turn 0x5f) (base_strict 0x100 top lo (omega arith)) λ b ok. turn_strict 0x5f (omega arith))
    (record {
      good = λ p ok. (omega arith, omega (arith, ok.0.0, ok.0.1, ok.1.1));
      back = λ p ok. parts_of_key p.0 p.1 ok.0.0 ok.1.1;
      sound = λ c ok. ((omega arith, omega (arith, ok.0, ok.1)), (omega arith, omega arith));
      forth = λ c ok.
          let z : 0x100 + (c - 1) / 96 - 0x100 ≡ (c - 1) / 96 = omega arith in
          rw z (omega (arith, split_96 (c - 1), ok.0));
    })

null_strict : Strict 1 null
null_strict =
    mapped_strict 1 (sequence (base 0 0) λ b. turn 0) (λ p. 0) (λ c. (0, 0)) (λ c. Range 0 0 c)
    (sequence_strict 1 (base 0 0) (λ b. turn 0) (base_strict 0 0 (omega arith) (omega arith)) λ b ok. turn_strict 0 (omega arith))
    (record {
      good = λ p ok. (omega arith, omega arith);
      back = λ p ok. let x : 0 ≡ p.0 = omega (arith, ok.0.1) in let y : 0 ≡ p.1 = omega (arith, ok.1.1) in λ i. (x i, y i);
      sound = λ c ok. ((omega arith, omega arith), (omega arith, omega arith));
      forth = λ c ok. omega (arith, ok.1);
    })

pub null_delimited : Delimited 1 null
null_delimited = null_strict.delimited

-- a key does not begin as null does
first_digit : {A : Type 0} (g : ℕ → Format A) (d : ℕ) (t : List ℕ) → 1 ≤ d → d < 16 → (sequence (digit 0 0) g).read (digit_byte d ∷ t) ≡ other
first_digit g d t h k =
    let e = digit_of_byte d k in
    ap (λ r. first r λ a rest. second (λ b. (a, b)) rest ((g a).read rest))
    (unit_above 1 (byte_of digit_of) (λ d. digit_byte d ∷ []) 0 0 (digit_byte d ∷ []) t refl (omega arith) (rw e (omega arith)))

-- a base of 000 begins with the digit 0
base_zero : (d : ℕ) (t : List ℕ) → 1 ≤ d → d < 16 → (base 0 0).read (digit_byte d ∷ t) ≡ other
base_zero d t h k =
    mapped_other (sequence (digit 0 0) low) (λ q. q.0 * 256 + q.1) (λ n. (n / 256, n % 256)) (Range 0 0) (digit_byte d ∷ t) (first_digit low d t h k)
  where
    low : ℕ → Format ℕ
    low a = digits (16 ∷ []) (0 - a * 256) (min (256 - 1) (0 - a * 256))

not_null : (top c : ℕ) (rest : List ℕ) → Range 1 (last_code top) c → top ≤ 0x38b → null.read ((key top).write c ++ rest) ≡ other
not_null top c rest ok h =
    let d = (0x100 + (c - 1) / 96) / 256 in
    mapped_other (sequence (base 0 0) λ b. turn 0) (λ p. 0) (λ c. (0, 0)) (λ c. Range 0 0 c) (digit_byte d ∷ drop 1 ((key top).write c ++ rest))
    (sequence_other (base 0 0) (λ b. turn 0) (digit_byte d ∷ drop 1 ((key top).write c ++ rest))
    (base_zero d (drop 1 ((key top).write c ++ rest)) (omega arith) (omega (arith, ok.1))))

to_of : (top : ℕ) (v : ℕ ⊎ ℕ) → (either null (key top)).Valid v → to_either (of_either v) ≡ v
to_of top (inl a) ok = let e : a ≡ 0 = omega (arith, ok.1) in ap (λ n. to_either n) e ∙ ap {B = ℕ ⊎ ℕ} inl (sym e)
to_of top (inr zero) ok = absurd (omega (arith, ok.0))
to_of top (inr (suc n)) ok = refl

in_range : (top : ℕ) (v : ℕ ⊎ ℕ) → (either null (key top)).Valid v → Range 0 (last_code top) (of_either v)
in_range top (inl a) ok = (omega arith, omega (arith, ok.1))
in_range top (inr b) ok = (omega arith, ok.1)

from_range : (top n : ℕ) → Range 0 (last_code top) n → (either null (key top)).Valid (to_either n)
from_range top zero ok = (omega arith, omega arith)
from_range top (suc n) ok = (omega arith, ok.1)

of_to : (n : ℕ) → of_either (to_either n) ≡ n
of_to zero = refl
of_to (suc n) = refl

pub null_or_key_strict : (top : ℕ) → 0x100 ≤ top → top ≤ 0x38b → Strict 1 (null_or_key top)
null_or_key_strict top lo hi =
    mapped_strict 1 (either null (key top)) of_either to_either (Range 0 (last_code top))
    (either_strict 1 null (key top) null_strict (key_strict top lo hi) λ c rest ok. not_null top c rest ok hi)
    (record { good = in_range top; back = to_of top; sound = from_range top; forth = λ n ok. of_to n })

pub null_or_key_size : (top n : ℕ) → length ((null_or_key top).write n) ≡ 5
null_or_key_size top zero = refl
null_or_key_size top (suc n) = refl
