-- The items and coordinates of each edition are lawful, and the items exact.
use Prim.Native.Nat.{ℕ, suc, ◌+◌, ◌-◌, ◌*◌, ◌/◌, ◌%◌, ◌≤◌, min}
use mathlib.Core.List.{List, [], ◌∷◌, ◌++◌, append_assoc}
use mathlib.Core.Path.{◌≡◌, refl, ap, ◌∙◌}
use mathlib.Core.Logic.{◌⊎◌, inl, inr}
use lib.Dec.{ltb}
use native.Mathlib.Omega.{arith}
use borrow.Author.Tests.{ltb-false, lt-ltb, le-ltb}
use Rattle.format.specs.Format.{value, other, Format, first, sequence, atomic, at_start}
use Rattle.format.specs.Numeral.{Range}
use Rattle.format.proofs.Sequence.{sequence_other}
use Rattle.format.proofs.Unit.{unit_above}
use Rattle.format.proofs.Exact.{Exact, other_stays}
use Rattle.format.proofs.ExactParts.{sequence_exact, either_exact}
use Rattle.format.proofs.Delimited.{Delimited, sequence_delimited, Strict, sequence_strict, mapped_strict, either_strict}
use Rattle.format.proofs.Open.{Open, delimited_open, sequence_open}
use Rattle.charset.specs.declared.Charset.TheVariants.{Fsw, Swu}
use Rattle.charset.specs.Bytes.{byte_of, digit_of, digit_byte, byte, digit, digits, after}
use Rattle.charset.specs.Tokens.{fsw_number, base, turn, null, last_code, last_punctuation}
use Rattle.charset.proofs.Coding.{by_test}
use Rattle.charset.proofs.Units.{byte_strict, digit_strict, digit_delimited, digits_strict, after_delimited, after_strict}
use Rattle.charset.proofs.Keys.{number_delimited, base_strict, null_or_key_strict as some-key-strict}
use Rattle.charset.proofs.FixedByte.{after_byte}
use Rattle.querygrammar.specs.declared.Edition.{Edition}
use Rattle.querygrammar.specs.declared.Edition.TheVariants.{First, Second}
use Rattle.querygrammar.specs.Scalar.{scalar}
use Rattle.querygrammar.specs.Spelling.{query_base, or_any, KeyText, open_digits, key_tail, range_end, range_tail, key_in, ValidKey, key_only, null_or_key, FswText, fsw_item, marks, swu_symbol, swu_base, swu_ends, swu_range, SwuText, swu_item, query_number, Spelling, spelling}
use Rattle.querygrammar.specs.Query.{coordinate}
use Rattle.querygrammar.proofs.Opens.{either_other, either_open}
use Rattle.querygrammar.proofs.Scalars.{scalar_strict}
pub use Rattle.querygrammar.proofs.Scalars.{shifted_delimited, scalar_delimited, scalar_other}
use Rattle.querygrammar.proofs.Lists.{Starts, Unmarked, Apart, Later, letter_later, Laws, Point}
use Rattle.querygrammar.proofs.Marks.{marks_exact, marks_firm, marks_follow}

-- FSW

query_base_strict : Strict 1 query_base
query_base_strict = base_strict 0x100 0x38b (omega arith) (omega arith)

pub query_base_delimited : Delimited 1 query_base
query_base_delimited = query_base_strict.delimited

pub figure_delimited : Delimited 1 (digit 0 9)
figure_delimited = digit_delimited 0 9 (omega arith) (omega arith)

u_digit : digit_of 117 ≡ 16
unfolding digit_of
u_digit = refl

any_strict : (hi : ℕ) → hi ≤ 15 → Strict 1 (or_any hi)
any_strict hi k = either_strict 1 (digit 0 hi) (byte 117) (digit_strict 0 hi (omega arith) k) (byte_strict 117) is-u
  where
    is-u : (b : ℕ) (rest : List ℕ) → (byte 117).Valid b → (digit 0 hi).read ((byte 117).write b ++ rest) ≡ other
    is-u b rest ok =
        let e : b ≡ 117 = omega (arith, ok.0, ok.1) in
        let d : digit_of b ≡ 16 = ap digit_of e ∙ u_digit in
        unit_above 1 (byte_of digit_of) (λ d. digit_byte d ∷ []) 0 hi (b ∷ []) rest refl (omega arith) (omega arith)

pub any_delimited : (hi : ℕ) → hi ≤ 15 → Delimited 1 (or_any hi)
any_delimited hi k = (any_strict hi k).delimited

open_strict : Strict 1 open_digits
open_strict = sequence_strict 1 (or_any 5) (λ f. or_any 15) (any_strict 5 (omega arith)) λ f ok. any_strict 15 (omega arith)

key_strict : Strict 1 key_tail
key_strict = sequence_strict 1 query_base (λ b. open_digits) query_base_strict λ b ok. open_strict

range_strict : Strict 1 range_tail
range_strict = sequence_strict 1 query_base (λ b. range_end) query_base_strict λ b ok. after_strict 116 query_base query_base_strict

key_only_strict : Strict 1 key_only
key_only_strict =
    mapped_strict 1 key_tail inr key_in ValidKey key_strict (record { good = λ k ok. ok; back = λ k ok. refl; sound = sound; forth = forth })
  where
    sound : (v : ℕ ⊎ KeyText) → ValidKey v → key_tail.Valid (key_in v)
    sound (inl n) ok = absurd ok
    sound (inr k) ok = ok

    forth : (v : ℕ ⊎ KeyText) → ValidKey v → inr (key_in v) ≡ v
    forth (inl n) ok = absurd ok
    forth (inr k) ok = refl

null_strict : Strict 1 null
null_strict =
    mapped_strict 1 (sequence (base 0 0) λ b. turn 0) (λ p. 0) (λ c. (0, 0)) (λ c. Range 0 0 c)
    (sequence_strict 1 (base 0 0) (λ b. turn 0) (base_strict 0 0 (omega arith) (omega arith)) λ b ok. digits_strict (16 ∷ []) 0 0 (omega arith) (omega arith, omega arith, omega arith))
    (record {
      good = λ p ok. (omega arith, omega arith);
      back = λ p ok. let x : 0 ≡ p.0 = omega (arith, ok.0.1) in let y : 0 ≡ p.1 = omega (arith, ok.1.1) in λ i. (x i, y i);
      sound = λ c ok. ((omega arith, omega arith), (omega arith, omega arith));
      forth = λ c ok. omega (arith, ok.1);
    })

-- a key begins with a base of 100 or more, as that of a sign does, and null does not
pub key_not_null : (k : KeyText) (rest : List ℕ) → key_tail.Valid k → null.read (key_tail.write k ++ rest) ≡ other
key_not_null k rest ok =
    let n = (k.0 - 0x100) * 96 in
    let e : 0x100 + (suc n - 1) / 96 ≡ k.0 = omega (arith, ok.0.0) in
    let t = (turn 0x5f).write ((suc n - 1) % 96) ++ rest in
    let z : null.read (query_base.write (0x100 + (suc n - 1) / 96) ++ t) ≡ other =
    ((some-key-strict 0x38b (omega arith) (omega arith)).delimited.free (suc n) rest (omega arith, omega (arith, ok.0.1))).0 in
    other_stays 1 null null_strict.exact (query_base.write k.0) t (open_digits.write k.1 ++ rest) (omega arith) (rw e at z)

null_or_key_strict : Strict 1 null_or_key
null_or_key_strict = either_strict 1 null key_tail null_strict key_strict key_not_null

pub key_only_delimited : Delimited 1 key_only
key_only_delimited = key_only_strict.delimited

pub null_or_key_delimited : Delimited 1 null_or_key
null_or_key_delimited = null_or_key_strict.delimited

module _ (symbol : Format (ℕ ⊎ KeyText)) (d : Strict 1 symbol) where
  fsw_strict : Strict 1 (fsw_item symbol)
  fsw_strict =
      either_strict 1 (after 83 symbol) (after 82 range_tail) (after_strict 83 symbol d) (after_strict 82 range_tail range_strict)
      λ v rest ok. after_byte 83 symbol 82 (range_tail.write v ++ rest) (λ e. omega arith)

  fsw_starts : (v : FswText) (t : List ℕ) → Starts Later ((fsw_item symbol).write v ++ t)
  fsw_starts (inl v) t = letter_later 83 (omega arith) (omega arith) (λ e. omega arith)
  fsw_starts (inr v) t = letter_later 82 (omega arith) (omega arith) (λ e. omega arith)

  fsw_laws : Laws Unmarked (fsw_item symbol)
  fsw_laws = record {
    opens = delimited_open 1 (fsw_item symbol) fsw_strict.delimited;
    starts = λ v t ok. fsw_starts v t;
    strange = λ x t a b c. either_other (after 83 symbol) (after 82 range_tail) (x ∷ t) (after_byte 83 symbol x t b) (after_byte 82 range_tail x t a);
    follows = λ v rest ok p. fsw_strict.delimited.free v rest ok;
  }

-- from the byte after 9 on there is no decimal digit
ten_on : (x : ℕ) → 58 ≤ x → 10 ≤ digit_of x
unfolding digit_of
ten_on x h =
    rw (le-ltb x 48 (omega arith), le-ltb x 58 h)
    (by_test (λ n. 10 ≤ n) (ltb x 97) (λ e. omega arith) λ e.
    let k : 97 ≤ x = ltb-false x 97 e in
    by_test (λ n. 10 ≤ n) (ltb x 103) (λ e. omega arith) (λ e. omega arith))

pub number_other : (x : ℕ) (t : List ℕ) → 58 ≤ x → fsw_number.read (x ∷ t) ≡ other
number_other x t h =
    let k = ten_on x h in
    ap (λ r. first {A = ℕ × ℕ} r λ p rest. value (p.0 * 100 + p.1) rest)
    (sequence_other (digit 2 7) (λ d. digits (10 ∷ []) (250 - d * 100) (min (100 - 1) (749 - d * 100))) (x ∷ t)
    (unit_above 1 (byte_of digit_of) (λ d. digit_byte d ∷ []) 2 7 (x ∷ []) t refl (omega arith) (omega arith)))

pub number_apart : (n : ℕ) (t : List ℕ) → fsw_number.Valid n → Starts Apart (fsw_number.write n ++ t)
number_apart n t ok = rw (lt-ltb (n / 100) 10 (omega (arith, ok.1))) ((λ e. omega arith, λ e. omega arith), λ e. omega arith)

-- a coordinate, by its two numbers
pub pair_point : (f g : Format ℕ) → Delimited 1 f → Delimited 1 g → ((n : ℕ) (t : List ℕ) → f.Valid n → Starts Apart (f.write n ++ t))
    → ((x : ℕ) (t : List ℕ) → 58 ≤ x → (x ≡ 240 → ⊥) → f.read (x ∷ t) ≡ other) → Point (sequence f λ n. g)
pair_point f g d e starts strange = record {
  delimited = sequence_delimited 1 f (λ n. g) d λ n ok. e;
  starts = λ v t ok. rw (append_assoc (f.write v.0) (g.write v.1) t) (starts v.0 (g.write v.1 ++ t) ok.0);
  strange = λ x t a n. sequence_other f (λ n. g) (x ∷ t) (strange x t a n);
}

fsw_point : Point (sequence (atomic fsw_number) λ n. after 120 (atomic fsw_number))
fsw_point =
    pair_point (atomic fsw_number) (after 120 (atomic fsw_number)) number_delimited (after_delimited 120 (atomic fsw_number) number_delimited) number_apart
    (λ x t a n. ap at_start (number_other x t a))

-- SWU

abbrev last : ℕ
last = last_code last_punctuation

symbol_strict : (least : ℕ) → least ≤ 1 → Strict 1 (scalar 0x40000 least last)
symbol_strict least k = scalar_strict 0x40000 least last (omega arith) (omega arith)

swu_range_strict : Strict 1 swu_range
swu_range_strict = after_strict 82 swu_ends (sequence_strict 1 swu_base (λ a. swu_base) (symbol_strict 1 (omega arith)) λ a ok. symbol_strict 1 (omega arith))

module _ (least : ℕ) (k : least ≤ 1) where
  symbol_open : Open 1 (swu_symbol least)
  symbol_open =
      sequence_open 1 (scalar 0x40000 least last) marks (delimited_open 1 (scalar 0x40000 least last) (symbol_strict least k).delimited)
      (λ c ok. marks_firm c) λ c ok. (marks_exact c).lawful

  pub symbol_other : (x : ℕ) (t : List ℕ) → (x ≡ 241 → ⊥) → (swu_symbol least).read (x ∷ t) ≡ other
  symbol_other x t n =
      sequence_other (scalar 0x40000 least last) marks (x ∷ t) (scalar_other 0x40000 least last 1 x t (omega arith) (omega arith) (omega arith) n)

  swu_starts : (v : SwuText) (t : List ℕ) → (swu_item least).Valid v → Starts Later ((swu_item least).write v ++ t)
  swu_starts (inl v) t ok =
      let e : 240 + (262144 + v.0) / 262144 ≡ 241 = omega (arith, ok.0.1) in
      (((λ z. omega (arith, e), λ z. omega (arith, e)), λ z. omega (arith, e)), (omega (arith, e), (λ z. omega (arith, e), λ z. omega (arith, e))))
  swu_starts (inr v) t ok = letter_later 82 (omega arith) (omega arith) (λ e. omega arith)

  swu_follows : (v : SwuText) (rest : List ℕ) → (swu_item least).Valid v → Starts Unmarked rest → (swu_item least).Follow v rest
  swu_follows (inl v) rest ok p = (marks_follow v.0 v.1 rest ok.1 p, (symbol_strict least k).delimited.free v.0 ((marks v.0).write v.1 ++ rest) ok.0)
  swu_follows (inr v) rest ok p = (symbol_other 82 (swu_ends.write v ++ rest) (λ e. omega arith), swu_range_strict.delimited.free v rest ok)

  swu_laws : Laws Unmarked (swu_item least)
  swu_laws = record {
    opens = either_open 1 (swu_symbol least) swu_range symbol_open (delimited_open 1 swu_range swu_range_strict.delimited);
    starts = swu_starts;
    strange = λ x t a b c. either_other (swu_symbol least) swu_range (x ∷ t) (symbol_other x t c) (after_byte 82 swu_ends x t a);
    follows = swu_follows;
  }

  swu_exact : Exact 1 (swu_item least)
  swu_exact =
      either_exact 1 (swu_symbol least) swu_range
      (sequence_exact 1 (scalar 0x40000 least last) marks (symbol_strict least k).exact λ c ok. marks_exact c) swu_range_strict.exact

pub query_number_strict : Strict 1 query_number
query_number_strict = scalar_strict (0x1d80c - 250) 250 749 (omega arith) (omega arith)

pub query_number_delimited : Delimited 1 query_number
query_number_delimited = query_number_strict.delimited

swu_point : Point (sequence query_number λ x. query_number)
swu_point =
    pair_point query_number query_number query_number_delimited query_number_delimited
    (λ n t ok.
    let e : 240 + (0x1d80c - 250 + n) / 262144 ≡ 240 = omega (arith, ok.1) in
    ((λ z. omega (arith, e), λ z. omega (arith, e)), λ z. omega (arith, e)))
    (λ x t a n. scalar_other (0x1d80c - 250) 250 749 0 x t (omega arith) (omega arith) (omega arith) n)

-- THE SPELLINGS
pub record LawfulSpelling (s : Spelling) : Type 0 where
  pub prefix_item : Laws Unmarked s.prefix_item
  pub signbox_item : Laws Unmarked s.signbox_item
  pub prefix_exact : Exact 1 s.prefix_item
  pub signbox_exact : Exact 1 s.signbox_item
  pub coordinate : Point (coordinate s)

pub lawful : (e : Edition) → LawfulSpelling (spelling e)
lawful First = record {
  prefix_item = fsw_laws key_only key_only_strict;
  signbox_item = fsw_laws key_only key_only_strict;
  prefix_exact = (fsw_strict key_only key_only_strict).exact;
  signbox_exact = (fsw_strict key_only key_only_strict).exact;
  coordinate = fsw_point;
}
lawful (Second Fsw) = record {
  prefix_item = fsw_laws null_or_key null_or_key_strict;
  signbox_item = fsw_laws key_only key_only_strict;
  prefix_exact = (fsw_strict null_or_key null_or_key_strict).exact;
  signbox_exact = (fsw_strict key_only key_only_strict).exact;
  coordinate = fsw_point;
}
lawful (Second Swu) = record {
  prefix_item = swu_laws 0 (omega arith);
  signbox_item = swu_laws 1 (omega arith);
  prefix_exact = swu_exact 0 (omega arith);
  signbox_exact = swu_exact 1 (omega arith);
  coordinate = swu_point;
}
