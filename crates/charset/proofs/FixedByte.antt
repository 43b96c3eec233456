-- Where a fixed byte stands, alone or before a format, and where another does.
use Prim.Native.Nat.{ℕ, ◌≤◌}
use mathlib.Core.List.{List, [], ◌∷◌}
use mathlib.Core.Path.{◌≡◌, refl, ap, ◌∙◌}
use mathlib.Core.Bool.{Bool, true, false}
use lib.Dec.{ltb}
use lib.ListN.{drop}
use native.Mathlib.Omega.{arith}
use borrow.Author.Tests.{ltb-true, ltb-false}
use Rattle.format.specs.Format.{value, other, Format, sequence, Absent}
use Rattle.format.specs.Located.{Located, found, wrong_at, short_here, locate, and_then, on_found}
use Rattle.format.proofs.Begun.{sequence_begun, mapped_begun, absent_other}
use Rattle.format.proofs.Delimited.{Delimited, unit_alone}
use Rattle.format.proofs.Unit.{unit_below, unit_above}
use Rattle.format.proofs.At.{Wronged, here, later, wronged, sequence_at, mapped_at}
use Rattle.charset.specs.Bytes.{byte_of, byte, digit_of, digit_byte, digit, after}
use Rattle.charset.proofs.Units.{byte_delimited, digit_delimited, after_other}

pub after_begun : {A : Type 0} (b : ℕ) (f : Format A) (text : List ℕ) (a : ℕ) (rest : List ℕ) → (byte b).read text ≡ value a rest → (after b f).read text ≡ other → ⊥
after_begun b f text a rest e =
    mapped_begun (sequence (byte b) λ a. f) (λ p. p.1) (λ v. (b, v)) f.Valid text (sequence_begun (byte b) (λ a. f) text a rest e)

-- A fixed byte and then a format.
module _ {A : Type 0} (b : ℕ) (f : Format A) (s : List ℕ) (at : ℕ) where
  follows : (l : Located ℕ) → on_found (λ p. p.1) (and_then l λ a i. on_found {B = ℕ × A} (λ v. (a, v)) (locate f s i)) ≡ and_then l λ a i. locate f s i
  follows (found a i) = go (locate f s i)
    where
      go : (l : Located A) → on_found (λ p. p.1) (on_found {B = ℕ × A} (λ v. (a, v)) l) ≡ l
      go (found v j) = refl
      go (wrong_at p) = refl
      go short_here = refl
  follows (wrong_at p) = refl
  follows short_here = refl

  pub after_at : locate (after b f) s at ≡ and_then (locate (byte b) s at) λ a i. locate f s i
  after_at =
      mapped_at (sequence (byte b) λ a. f) (λ p. p.1) (λ v. (b, v)) f.Valid s at
      ∙ ap (on_found (λ p. p.1)) (sequence_at 1 (byte b) (λ a. f) (byte_delimited b) s at)
      ∙ follows (locate (byte b) s at)

-- One byte is wrong at its offset.
module _ (b : ℕ) (s : List ℕ) (at p : ℕ) (e : locate (byte b) s at ≡ wrong_at p) where
  byte_strays : Wronged 1 (byte b) (byte_delimited b) s at p → (p ≡ at) × ((byte b).read (drop at s) ≡ other)
  byte_strays (here z o) = (z, o)
  byte_strays (later rest z k o) = absurd (unit_alone 1 (byte_of λ a. a) (λ a. a ∷ []) b b (drop at s) rest o)

  pub byte_wrong : (p ≡ at) × ((byte b).read (drop at s) ≡ other)
  byte_wrong = byte_strays (wronged 1 (byte b) (byte_delimited b) s at p e)

module _ (hi : ℕ) (k : hi ≤ 15) (s : List ℕ) (at p : ℕ) (e : locate (digit 0 hi) s at ≡ wrong_at p) where
  abbrev d : Delimited 1 (digit 0 hi)
  d = digit_delimited 0 hi (omega arith) k

  digit_strays : Wronged 1 (digit 0 hi) d s at p → (p ≡ at) × ((digit 0 hi).read (drop at s) ≡ other)
  digit_strays (here z o) = (z, o)
  digit_strays (later rest z k o) = absurd (unit_alone 1 (byte_of digit_of) (λ d. digit_byte d ∷ []) 0 hi (drop at s) rest o)

  pub digit_wrong : (p ≡ at) × ((digit 0 hi).read (drop at s) ≡ other)
  digit_wrong = digit_strays (wronged 1 (digit 0 hi) d s at p e)

-- Where another byte stands.

byte_go : (b x : ℕ) (t : List ℕ) → (x ≡ b → ⊥) → (p : Bool) → ltb x b ≡ p → (byte b).read (x ∷ t) ≡ other
byte_go b x t n true e = unit_below 1 (byte_of λ a. a) (λ a. a ∷ []) b b (x ∷ []) t refl (ltb-true x b e)
byte_go b x t n false e =
    let k : b ≤ x = ltb-false x b e in
    unit_above 1 (byte_of λ a. a) (λ a. a ∷ []) b b (x ∷ []) t refl k (omega (arith, n))

pub byte_other : (b x : ℕ) (t : List ℕ) → (x ≡ b → ⊥) → (byte b).read (x ∷ t) ≡ other
byte_other b x t n = byte_go b x t n (ltb x b) refl

pub after_byte : {A : Type 0} (b : ℕ) (f : Format A) (x : ℕ) (t : List ℕ) → (x ≡ b → ⊥) → (after b f).read (x ∷ t) ≡ other
after_byte b f x t n = after_other b f (x ∷ t) (byte_other b x t n)

-- a text that does not begin with a byte
abbrev pub Not : ℕ → List ℕ → Type 0
Not b [] = Unit
Not b (x ∷ t) = x ≡ b → ⊥

pub byte_absent : (b : ℕ) (text : List ℕ) → Not b text → Absent text ((byte b).read text)
byte_absent b [] n = tt
byte_absent b (x ∷ t) n = absent_other (x ∷ t) (byte_other b x t n)

pub after_absent : {A : Type 0} (b : ℕ) (f : Format A) (text : List ℕ) → Not b text → Absent text ((after b f).read text)
after_absent b f [] n = tt
after_absent b f (x ∷ t) n = absent_other (x ∷ t) (after_byte b f x t n)
