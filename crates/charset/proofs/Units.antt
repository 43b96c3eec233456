-- Bytes, digits, markers, characters and numerals are delimited and exact.
use Prim.Native.Nat.{ℕ, ◌+◌, ◌-◌, ◌≤◌, ◌<◌}
use mathlib.Core.List.{List, [], ◌∷◌}
use mathlib.Core.Path.{◌≡◌, refl}
use native.Mathlib.Omega.{arith}
use Rattle.format.specs.Format.{Format, other, short, unit, sequence}
use Rattle.format.specs.Numeral.{Weights}
use Rattle.format.proofs.Lawful.{Lawful}
use Rattle.format.proofs.Sequence.{sequence_other, sequence_lawful}
use Rattle.format.proofs.Parts.{Inverse, mapped_other, mapped_lawful}
use Rattle.format.proofs.Exact.{Exact}
use Rattle.format.proofs.ExactParts.{sequence_exact, mapped_exact}
use Rattle.format.proofs.Delimited.{Firm, Delimited, solid, sequence_firm, sequence_delimited, mapped_delimited, Strict, unit_firm, mapped_wrong}
use Rattle.format.proofs.Open.{Open}
use Rattle.format.proofs.Numerals.{numeral_strict}
use Rattle.charset.specs.Bytes.{digit_of, digit_byte, marker_of, marker_byte, byte_of, scalar_of, utf8, byte, digit, digits, letter, after, character}
use Rattle.charset.proofs.Coding.{byte_exact, digit_exact, letter_exact, character_exact}

-- an exact format that anything may follow, and that an empty text cuts short
strict : {A : Type 0} (w : ℕ) (f : Format A) → Exact w f → ((v : A) (rest : List ℕ) → f.Valid v → f.Follow v rest) → f.read [] ≡ short → Firm f → Strict w f
strict w f l free empty firm = record { delimited = record { lawful = l.lawful; free = free; empty = empty; firm = firm }; exact = l }

pub byte_strict : (b : ℕ) → Strict 1 (byte b)
byte_strict b = strict 1 (byte b) (byte_exact b) (λ v rest ok. tt) refl (unit_firm 1 (byte_of λ a. a) (λ a. a ∷ []) b b)

pub byte_delimited : (b : ℕ) → Delimited 1 (byte b)
byte_delimited b = (byte_strict b).delimited

pub digit_strict : (lo hi : ℕ) → lo ≤ hi → hi ≤ 15 → Strict 1 (digit lo hi)
digit_strict lo hi h k = strict 1 (digit lo hi) (digit_exact lo hi h k) (λ v rest ok. tt) refl (unit_firm 1 (byte_of digit_of) (λ d. digit_byte d ∷ []) lo hi)

pub digit_delimited : (lo hi : ℕ) → lo ≤ hi → hi ≤ 15 → Delimited 1 (digit lo hi)
digit_delimited lo hi h k = (digit_strict lo hi h k).delimited

pub letter_strict : (lo hi : ℕ) → lo ≤ hi → hi ≤ 4 → Strict 1 (letter lo hi)
letter_strict lo hi h k = strict 1 (letter lo hi) (letter_exact lo hi h k) (λ v rest ok. tt) refl (unit_firm 1 (byte_of marker_of) (λ m. marker_byte m ∷ []) lo hi)

pub character_strict : (from lo hi : ℕ) → 0 < from → lo ≤ hi → from + hi < 2097152 → Strict 4 (character from lo hi)
character_strict from lo hi p k h =
    strict 4 (character from lo hi) (character_exact from lo hi p k h) (λ v rest ok. tt) refl
    λ text rest e. unit_firm 4 scalar_of utf8 (from + lo) (from + hi) text rest (mapped_wrong (λ c. c - from) rest ((unit 4 scalar_of utf8 (from + lo) (from + hi)).read text) e)

-- a fixed byte, and then a format
module _ {A : Type 0} (b : ℕ) (f : Format A) where
  pub after_inverse : Inverse (sequence (byte b) λ a. f) (λ p. p.1) (λ v. (b, v)) f.Valid
  after_inverse = record {
    good = λ p ok. ok.1;
    back = λ p ok. let e : b ≡ p.0 = omega (arith, ok.0.0, ok.0.1) in λ i. (e i, p.1);
    sound = λ v ok. ((omega arith, omega arith), ok);
    forth = λ v ok. refl;
  }

  pub after_other : (text : List ℕ) → (byte b).read text ≡ other → (after b f).read text ≡ other
  after_other text e =
      mapped_other (sequence (byte b) λ a. f) (λ p. p.1) (λ v. (b, v)) f.Valid text (sequence_other (byte b) (λ a. f) text e)

  pub after_lawful : Lawful 1 f → Lawful 1 (after b f)
  after_lawful l =
      mapped_lawful 1 (sequence (byte b) λ a. f) (λ p. p.1) (λ v. (b, v)) f.Valid (sequence_lawful 1 (byte b) (λ a. f) (byte_delimited b).lawful λ a ok. l) after_inverse

  pub after_firm : Firm f → Firm (after b f)
  after_firm firm text rest e =
      let d = byte_delimited b in
      sequence_firm 1 (byte b) (λ a. f) d.lawful (solid 1 (byte b) d) d.firm (λ a ok. firm) text rest (mapped_wrong (λ p. p.1) rest ((sequence (byte b) (λ a. f)).read text) e)

  pub after_open : Lawful 1 f → Firm f → Open 1 (after b f)
  after_open l firm = record { lawful = after_lawful l; solid = λ v ok. omega arith; empty = refl; firm = after_firm firm }

  pub after_exact : Exact 1 f → Exact 1 (after b f)
  after_exact l =
      mapped_exact 1 (sequence (byte b) λ a. f) (λ p. p.1) (λ v. (b, v)) f.Valid (sequence_exact 1 (byte b) (λ a. f) (byte_exact b) λ a ok. l) after_inverse

  pub after_delimited : Delimited 1 f → Delimited 1 (after b f)
  after_delimited t =
      mapped_delimited 1 (sequence (byte b) λ a. f) (λ p. p.1) (λ v. (b, v)) f.Valid (sequence_delimited 1 (byte b) (λ a. f) (byte_delimited b) λ a ok. t) after_inverse

  pub after_strict : Strict 1 f → Strict 1 (after b f)
  after_strict t = record { delimited = after_delimited t.delimited; exact = after_exact t.exact }

pub digits_strict : (ps : List ℕ) (lo hi : ℕ) → lo ≤ hi → Weights 15 15 hi ps → Strict 1 (digits ps lo hi)
digits_strict = numeral_strict 15 15 digit digit (λ lo hi. refl) (λ lo hi. refl) digit_strict digit_strict

pub digits_delimited : (ps : List ℕ) (lo hi : ℕ) → lo ≤ hi → Weights 15 15 hi ps → Delimited 1 (digits ps lo hi)
digits_delimited ps lo hi h k = (digits_strict ps lo hi h k).delimited
