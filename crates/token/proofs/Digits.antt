-- Laws of numbers in digits of any kind, read as a first digit and a number in the others: a function that reads one only cites these.
use Prim.Native.Nat.{ℕ, suc, ◌+◌, ◌-◌, ◌*◌, ◌/◌, ◌%◌, ◌≤◌, min}
use mathlib.Core.List.{List, [], ◌∷◌}
use mathlib.Core.Path.{◌≡◌, refl, sym, ◌∙◌}
use lib.ListN.{length, length-append}
use native.Mathlib.Omega.{arith}
use Rattle.format.specs.Format.{Format}
use Rattle.format.specs.Numeral.{Range, numeral, Weights}
use Rattle.format.proofs.Delimited.{Delimited}
use Rattle.format.proofs.Numerals.{Digit, Ranged, left, less, numeral_range, numeral_strict}
use Rattle.charset.specs.Bytes.{digit_of, digit_byte, digit, digits}
use Rattle.charset.proofs.Units.{digit_strict}
use Rattle.std.specs.Prelude.{Result as Answer, Ok}
use Rattle.token.specs.declared.refusal.Refusal.{Refusal}
use Rattle.token.specs.Token.{token_at}
use Rattle.token.specs.Digits.{one_digit}
use Rattle.token.proofs.Told.{Fails, Told, told_at, first_fails, second_fails, both_told}

-- a digit up to top that takes one byte
pub record OneByte (top : ℕ) (one : ℕ → ℕ → Format ℕ) : Type 1 where
  pub strict : Digit top one
  pub range : Ranged one
  pub size : (lo hi v : ℕ) → length ((one lo hi).write v) ≡ 1

-- the first digit is a
pub record First (one : ℕ → ℕ → Format ℕ) (p lo hi : ℕ) (s : List ℕ) (at a : ℕ) : Type 0 where
  pub told : Told 1 (one (lo / p) (hi / p)) s at a
  pub under : a * p ≤ hi
  pub least : lo - a * p ≤ min (p - 1) (hi - a * p)

-- what is told of the others, r, and so of the whole
pub record Rest (one : ℕ → ℕ → Format ℕ) (p : ℕ) (ps : List ℕ) (lo hi : ℕ) (s : List ℕ) (at a : ℕ) (r : Answer ℕ Refusal) : Type 0 where
  pub fails : Fails r → r ≡ token_at (numeral one one (p ∷ ps) lo hi) s at
  pub value : (b : ℕ) → r ≡ Ok b → Ok (a * p + b) ≡ token_at (numeral one one (p ∷ ps) lo hi) s at
  pub fits : (b : ℕ) → r ≡ Ok b → a * p + b ≤ hi

module _ {top : ℕ} {one : ℕ → ℕ → Format ℕ} (u : OneByte top one) where
  abbrev number : List ℕ → ℕ → ℕ → Format ℕ
  number = numeral one one

  size : (ps : List ℕ) (lo hi v : ℕ) → length ((number ps lo hi).write v) ≡ suc (length ps)
  size [] lo hi v = u.size lo hi v
  size (p ∷ ps) lo hi v =
      let d = (one (lo / p) (hi / p)).write (v / p) in
      let more = (number ps (lo - v / p * p) (min (p - 1) (hi - v / p * p))).write (v % p) in
      omega (arith, length-append d more, u.size (lo / p) (hi / p) (v / p), size ps (lo - v / p * p) (min (p - 1) (hi - v / p * p)) (v % p))

  range : (ps : List ℕ) (lo hi v : ℕ) → (number ps lo hi).Valid v → Range lo hi v
  range ps lo hi v ok = rw (numeral_range one one u.range u.range ps lo hi) at ok

  pub numeral_told : (ps : List ℕ) (lo hi : ℕ) → lo ≤ hi → Weights top top hi ps → (s : List ℕ) (at v : ℕ) → token_at (number ps lo hi) s at ≡ Ok v
      → Told (suc (length ps)) (number ps lo hi) s at v
  numeral_told ps lo hi h k =
      told_at 1 (suc (length ps)) (number ps lo hi)
      (record { delimited = (numeral_strict top top one one u.range u.range u.strict u.strict ps lo hi h k).delimited; size = λ v ok. size ps lo hi v })

  module _ (p : ℕ) (ps : List ℕ) (lo hi : ℕ) (o : lo ≤ hi) (k : Weights top top hi (p ∷ ps)) (s : List ℕ) (at : ℕ) where
    abbrev head : Format ℕ
    head = one (lo / p) (hi / p)

    abbrev rest : ℕ → Format ℕ
    rest a = number ps (lo - a * p) (min (p - 1) (hi - a * p))

    abbrev sum : ℕ × ℕ → ℕ
    sum q = q.0 * p + q.1

    abbrev parts : ℕ → ℕ × ℕ
    parts n = (n / p, n % p)

    ordered : lo / p ≤ hi / p
    ordered = (less (hi / p) (p - 1) (p ∷ []) lo hi o (k.0, omega arith, omega arith)).1

    delimited : Delimited 1 head
    delimited = (u.strict (lo / p) (hi / p) ordered k.1).delimited

    pub head_fails : (r : Answer ℕ Refusal) → r ≡ token_at head s at → Fails r → r ≡ token_at (number (p ∷ ps) lo hi) s at
    head_fails = first_fails 1 1 head rest sum parts (Range lo hi) delimited s at

    pub head_told : (a : ℕ) (r : Answer ℕ Refusal) → r ≡ token_at head s at → r ≡ Ok a → First one p lo hi s at a
    head_told a r e v =
        let t = numeral_told [] (lo / p) (hi / p) ordered k.1 s at a (sym e ∙ v) in
        let g = range [] (lo / p) (hi / p) a t.valid in
        let l = left p lo hi a k.0 g.0 g.1 in
        record { told = t; under = l.under; least = omega (arith, l.under, l.over, k.0) }

    rest-weights : (a : ℕ) → Weights top top (min (p - 1) (hi - a * p)) ps
    rest-weights a = less top top ps (min (p - 1) (hi - a * p)) (p - 1) (omega arith) k.2

    -- the limits of the others, as a function gives them
    pub rest_limits : (a l h : ℕ) → First one p lo hi s at a → l ≡ lo - a * p → h ≡ min (p - 1) (hi - a * p) → (l ≤ h) × Weights top top h ps
    rest_limits a l h f x y = (rw (x, y) f.least, rw y (rest-weights a))

    pub rest_told : (a l h : ℕ) (r : Answer ℕ Refusal) → First one p lo hi s at a → l ≡ lo - a * p → h ≡ min (p - 1) (hi - a * p) → r ≡ token_at (number ps l h) s (at + 1)
        → Rest one p ps lo hi s at a r
    rest_told a l h r f x y e =
        let z : r ≡ token_at (rest a) s (at + 1) = rw (x, y) at e in
        record {
          fails = second_fails 1 1 head rest sum parts (Range lo hi) delimited s at a r f.told z;
          value = λ b v. both_told 1 1 head rest sum parts (Range lo hi) delimited s at a b f.told (sym z ∙ v);
          fits = λ b v.
              let t = numeral_told ps (lo - a * p) (min (p - 1) (hi - a * p)) f.least (rest-weights a) s (at + 1) b (sym z ∙ v) in
              omega (arith, f.under, (range ps (lo - a * p) (min (p - 1) (hi - a * p)) b t.valid).1);
        }

pub digits_of_kind : (top : ℕ) (value byte : ℕ → ℕ) → Digit top (one_digit value byte) → OneByte top (one_digit value byte)
digits_of_kind top value byte strict = record { strict = strict; range = λ lo hi. refl; size = λ lo hi v. refl }

-- hexadecimal digits
pub hexadecimal : OneByte 15 digit
hexadecimal = digits_of_kind 15 digit_of digit_byte digit_strict

pub digits_told : (ps : List ℕ) (lo hi : ℕ) → lo ≤ hi → Weights 15 15 hi ps → (s : List ℕ) (at v : ℕ) → token_at (digits ps lo hi) s at ≡ Ok v
    → Told (suc (length ps)) (digits ps lo hi) s at v
digits_told = numeral_told hexadecimal
