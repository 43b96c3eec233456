-- Characters of four bytes read byte by byte: delimited and exact, what begins none, and that their bytes are those of a sign's.
use Prim.Native.Nat.{ℕ, ◌+◌, ◌-◌, ◌*◌, ◌/◌, ◌%◌, ◌≤◌, ◌<◌, min}
use mathlib.Core.List.{List, [], ◌∷◌}
use mathlib.Core.Path.{◌≡◌, refl, ap}
use mathlib.Core.Bool.{Bool, true, false}
use lib.Dec.{ltb}
use lib.ListN.{length}
use native.Mathlib.Omega.{arith}
use borrow.Author.Tests.{ltb-true, ltb-false, le-ltb}
use Rattle.format.specs.Format.{other, Format, sequence}
use Rattle.format.specs.Numeral.{Range, numeral}
use Rattle.format.proofs.Sequence.{sequence_other}
use Rattle.format.proofs.Parts.{mapped_other}
use Rattle.format.proofs.Exact.{Exact}
use Rattle.format.proofs.Delimited.{Delimited, Strict, mapped_strict, unit_firm}
use Rattle.format.proofs.Numerals.{numeral_strict}
use Rattle.format.proofs.Unit.{unit_exact, unit_below, unit_above}
use Rattle.charset.specs.Bytes.{byte_of}
use Rattle.charset.proofs.Coding.{by_test}
use Rattle.querygrammar.specs.Scalar.{distance, shifted, code_point, scalar}
use Rattle.querygrammar.specs.QueryLaws.{SameCharacters}

-- ONE BYTE

module _ (from top : ℕ) where
  shifted_reads : (d : ℕ) → d ≤ top → distance from top (from + d) ≡ d
  shifted_reads d h = rw (le-ltb (from + d) from (omega arith)) (omega arith)

  shifted_writes : (b : ℕ) → distance from top b ≤ top → from + distance from top b ≡ b
  shifted_writes b =
      by_test (λ n. n ≤ top → from + n ≡ b) (ltb b from) (λ e h. absurd (omega arith)) λ e h. omega (arith, ltb-false b from e)

  one : (lo hi : ℕ) → hi ≤ top → (u : List ℕ) → length u ≡ 1 → lo ≤ byte_of (distance from top) u → byte_of (distance from top) u ≤ hi
      → (from + byte_of (distance from top) u) ∷ [] ≡ u
  one lo hi h [] e a b = absurd (omega arith)
  one lo hi h (x ∷ []) e a b = ap (λ n. n ∷ []) (shifted_writes x (omega arith))
  one lo hi h (x ∷ y ∷ t) e a b = absurd (omega arith)

  shifted_exact : (lo hi : ℕ) → lo ≤ hi → hi ≤ top → Exact 1 (shifted from top lo hi)
  shifted_exact lo hi k h =
      unit_exact 1 (byte_of (distance from top)) (λ d. (from + d) ∷ []) lo hi
      (record { least = k; size = λ v a b. refl; reads = λ v a b. shifted_reads v (omega arith); writes = one lo hi h }) (omega arith)

  pub shifted_delimited : (lo hi : ℕ) → lo ≤ hi → hi ≤ top → Delimited 1 (shifted from top lo hi)
  shifted_delimited lo hi k h = record {
    lawful = (shifted_exact lo hi k h).lawful;
    free = λ v rest ok. tt;
    empty = refl;
    firm = unit_firm 1 (byte_of (distance from top)) (λ d. (from + d) ∷ []) lo hi;
  }

  pub shifted_strict : (lo hi : ℕ) → lo ≤ hi → hi ≤ top → Strict 1 (shifted from top lo hi)
  shifted_strict lo hi k h = record { delimited = shifted_delimited lo hi k h; exact = shifted_exact lo hi k h }

-- FOUR BYTES

code_point_strict : (lo hi : ℕ) → lo ≤ hi → hi < 2097152 → Strict 1 (code_point lo hi)
code_point_strict lo hi h k =
    numeral_strict 7 63 (shifted 0xf0 7) (shifted 0x80 63) (λ lo hi. refl) (λ lo hi. refl) (shifted_strict 0xf0 7) (shifted_strict 0x80 63)
    (262144 ∷ 4096 ∷ 64 ∷ []) lo hi h (omega arith, omega arith, (omega arith, omega arith, (omega arith, omega arith, omega arith)))

pub scalar_strict : (from lo hi : ℕ) → lo ≤ hi → from + hi < 2097152 → Strict 1 (scalar from lo hi)
scalar_strict from lo hi k h =
    mapped_strict 1 (code_point (from + lo) (from + hi)) (λ c. c - from) (λ n. from + n) (Range lo hi) (code_point_strict (from + lo) (from + hi) (omega arith) h)
    (record {
      good = λ a ok. (omega (arith, ok.0), omega (arith, ok.1));
      back = λ a ok. omega (arith, ok.0);
      sound = λ b ok. (omega (arith, ok.0), omega (arith, ok.1));
      forth = λ b ok. omega arith;
    })

pub scalar_delimited : (from lo hi : ℕ) → lo ≤ hi → from + hi < 2097152 → Delimited 1 (scalar from lo hi)
scalar_delimited from lo hi k h = (scalar_strict from lo hi k h).delimited

-- a byte with which none of the characters begins, where all of them begin with one byte
module _ (d x : ℕ) (t : List ℕ) (k : d ≤ 7) (n : x ≡ 0xf0 + d → ⊥) where
  apart : distance 0xf0 7 x ≡ d → ⊥
  apart = by_test (λ m. m ≡ d → ⊥) (ltb x 0xf0) (λ e z. omega arith) λ e z. n (omega (arith, ltb-false x 0xf0 e))

  lead_go : (p : Bool) → ltb (distance 0xf0 7 x) d ≡ p → (shifted 0xf0 7 d d).read (x ∷ t) ≡ other
  lead_go true e = unit_below 1 (byte_of (distance 0xf0 7)) (λ d. (0xf0 + d) ∷ []) d d (x ∷ []) t refl (ltb-true (distance 0xf0 7 x) d e)
  lead_go false e =
      let h : d ≤ distance 0xf0 7 x = ltb-false (distance 0xf0 7 x) d e in
      unit_above 1 (byte_of (distance 0xf0 7)) (λ d. (0xf0 + d) ∷ []) d d (x ∷ []) t refl h (omega (arith, apart))

pub scalar_other : (from lo hi d x : ℕ) (t : List ℕ) → d ≤ 7 → (from + lo) / 262144 ≡ d → (from + hi) / 262144 ≡ d → (x ≡ 0xf0 + d → ⊥) → (scalar from lo hi).read (x ∷ t) ≡ other
scalar_other from lo hi d x t k a b n =
    mapped_other (code_point (from + lo) (from + hi)) (λ c. c - from) (λ m. from + m) (Range lo hi) (x ∷ t)
    (mapped_other (sequence lead low) (λ q. q.0 * 262144 + q.1) (λ m. (m / 262144, m % 262144)) (Range (from + lo) (from + hi)) (x ∷ t)
    (sequence_other lead low (x ∷ t) (rw (a, b) (lead_go d x t k n (ltb (distance 0xf0 7 x) d) refl))))
  where
    lead : Format ℕ
    lead = shifted 0xf0 7 ((from + lo) / 262144) ((from + hi) / 262144)

    low : ℕ → Format ℕ
    low e = numeral (shifted 0x80 63) (shifted 0x80 63) (4096 ∷ 64 ∷ []) (from + lo - e * 262144) (min (262144 - 1) (from + hi - e * 262144))

-- THE SAME BYTES

second : (c : ℕ) → c % 262144 / 4096 ≡ c / 4096 % 64
second c = omega arith

less : (c : ℕ) → c % 262144 % 4096 ≡ c % 4096
less c = omega arith

third : (c : ℕ) → c % 4096 / 64 ≡ c / 64 % 64
third c = omega arith

fourth : (c : ℕ) → c % 4096 % 64 ≡ c % 64
fourth c = omega arith

pub same_characters : SameCharacters
same_characters from lo hi n = let c = from + n in rw (less c, second c, third c, fourth c)
