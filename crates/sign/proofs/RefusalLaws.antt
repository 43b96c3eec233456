-- When a sign is refused, from what its text comes to and from the tests of its limits.
use Rattle.std.proofs.Common.{◌≡◌, ℕ, ◌<◌, ◌≤◌, Bool, true, false, leb, ◌↔◌, List, length, ap, arith}
use mathlib.Core.Logic.Iff
use Rattle.format.specs.Places.{Outcome, fine, refused, ends_short}
use Rattle.charset.specs.declared.Charset.{Charset}
use Rattle.charset.specs.declared.Charset.TheVariants.{Fsw, Swu}
use Rattle.grammar.specs.Sign.{Meaning, read_sign}
use Rattle.grammar.proofs.SignLaws.{sign_laws, sign_fine}
use Rattle.token.specs.Refusal.{text_wrong, text_short, prefix_long, signbox_long}
use Rattle.token.specs.Result.{Result, refusal, done, check, and_then, of_outcome}
use Rattle.token.proofs.Exactly.{text_wrong_lem, text_short_lem, said_exactly}
use Rattle.reader.specs.Signs.{within_limits, sign_of}
use Rattle.reader.proofs.Limits.{sign_limited, limited_sign, within_never, prefix_exceeds, signbox_exceeds}
use Rattle.sign.specs.Reading.{packed, reading_of, reading_in}
use Rattle.sign.specs.RefusalLaws.{Answers, Says, WrongAt, StopsEarly, RefusalLaws}
use Rattle.sign.proofs.Packed.{read_means}

-- the number and the place of an answer are those of the refusal that it was made from
pub answers_exactly : (set : Charset) (r : Result Meaning) (n p : ℕ) → 0 < n → Answers (reading_of set r) n p ↔ (r ≡ refusal n p)
unfolding reading_of
answers_exactly set (refusal k q) n p h = (λ e. λ i. refusal (e.0 i) (e.1 i), λ e. (cc, cc))
answers_exactly set (done m) n p h = (λ e. absurd (omega (arith, e.0)), λ e. absurd (let z : ◌≡◌ {A = ℕ} 0 1 = cc in omega arith))

-- 1 AND 2

wrong_places : (set : Charset) (text : List ℕ) (p : ℕ) → (read_sign set text ≡ refused p) ↔ WrongAt set text p
wrong_places Fsw text p = (sign_laws Fsw).places.wrong text p
wrong_places Swu text p = (sign_laws Swu).places text (refused p)

short_places : (set : Charset) (text : List ℕ) → (read_sign set text ≡ ends_short) ↔ StopsEarly set text
short_places Fsw text = (sign_laws Fsw).places.short text
short_places Swu text = (sign_laws Swu).places text ends_short

module _ (set : Charset) (text : List ℕ) where
  wrong : (p : ℕ) → Answers (reading_in set text) text_wrong p ↔ WrongAt set text p
  unfolding sign_of
  wrong p =
      Iff.trans (answers_exactly set (sign_of set text) text_wrong p (omega arith))
      (Iff.trans (text_wrong_lem (length text) (read_sign set text) within_limits (λ m. within_never m text_wrong (λ e. omega arith) (λ e. omega arith)) p)
      (wrong_places set text p))

  short : (p : ℕ) → Answers (reading_in set text) text_short p ↔ (StopsEarly set text × (p ≡ length text))
  unfolding sign_of
  short p =
      Iff.trans (answers_exactly set (sign_of set text) text_short p (omega arith))
      (Iff.trans (text_short_lem (length text) (read_sign set text) within_limits (λ m. within_never m text_short (λ e. omega arith) (λ e. omega arith)) p)
      (Iff.and (short_places set text) Iff.rfl))

  -- 3 AND 4

  over : (k p : ℕ) (Exceeds : Meaning → Type 0) → text_short < k → ((m : Meaning) → (within_limits m ≡ refusal k p) ↔ Exceeds m)
      → Answers (reading_in set text) k p ↔ ((m : Meaning) × (Says set text m × Exceeds m))
  unfolding sign_of
  over k p Exceeds h g =
      Iff.trans (answers_exactly set (sign_of set text) k p (omega arith))
      (said_exactly (length text) (read_sign set text) within_limits (Says set text) Exceeds k p h (sign_fine set text) (λ m s. g m))

  -- DONE

  reads : (m : Meaning) → Says set text m → length m.prefix ≤ 32 → length m.symbols ≤ 64 → reading_in set text ≡ record { number = 0; place = 0; sign = packed set m }
  unfolding reading_of
  reads m s p n = ap (reading_of set) (limited_sign set text m (record { says = (sign_fine set text m).1 s; prefix = p; symbols = n }))

  accepted : ((reading_in set text).number ≡ 0) ↔ ((m : Meaning) × Says set text m × (length m.prefix ≤ 32) × (length m.symbols ≤ 64))
  accepted = (
    λ z.
        let d = read_means set text z in
        let l = sign_limited set text d.0 d.1 in
        (d.0, (sign_fine set text d.0).0 l.says, l.prefix, l.symbols),
    λ x. ap (λ r. r.number) (reads x.0 x.1 x.2 x.3),
  )

  -- NO OTHER NUMBER

  within_number : (m : Meaning) (p s : Bool) → (reading_of set (check p prefix_long 0 (check s signbox_long 0 (done m)))).number ≤ 4
  unfolding reading_of
  within_number m true true = omega arith
  within_number m true false = omega arith
  within_number m false s = omega arith

  number : (o : Outcome Meaning) → (reading_of set (and_then (of_outcome (length text) o) within_limits)).number ≤ 4
  unfolding reading_of
  number (fine m) = within_number m (leb (length m.prefix) 32) (leb (length m.symbols) 64)
  number (refused p) = omega arith
  number ends_short = omega arith

  numbers : (reading_in set text).number ≤ 4
  unfolding sign_of
  numbers = number (read_sign set text)

pub refusal_laws : (set : Charset) → RefusalLaws set
refusal_laws set = record {
  wrong = wrong set;
  short = short set;
  refuses_prefix = λ text p.
      Iff.trans (over set text prefix_long p (λ m. (32 < length m.prefix) × (p ≡ 0)) (omega arith) (λ m. prefix_exceeds m p))
      (λ x. (x.0, x.1.0, x.1.1.0, x.1.1.1), λ x. (x.0, (x.1, (x.2, x.3))));
  refuses_signbox = λ text p.
      Iff.trans (over set text signbox_long p (λ m. (length m.prefix ≤ 32) × ((64 < length m.symbols) × (p ≡ 0))) (omega arith) (λ m. signbox_exceeds m p))
      (λ x. (x.0, x.1.0, x.1.1.0, x.1.1.1.0, x.1.1.1.1), λ x. (x.0, (x.1, (x.2, (x.3, x.4)))));
  accepted = accepted set;
  reads = reads set;
  numbers = numbers set;
}
