-- Words where they lie: the number of some bytes at an offset, and one law for each way in which a word is there or not.
use Prim.Native.Nat.{ℕ, zero, suc, ◌+◌, ◌*◌, ◌^◌, ◌≤◌, ◌<◌}
use mathlib.Core.Path.{◌≡◌, refl, sym, ap, ◌∙◌}
use mathlib.Core.List.{List, [], ◌∷◌, ◌++◌}
use mathlib.Core.Bool.{Bool, true, false, ◌&&◌, true≢false}
use native.Mathlib.Numerals.{add-one}
use native.Mathlib.Omega.{arith}
use lib.Dec.{eqb}
use lib.ListN.{length, take, drop, get_or, length-drop}
use lib.Pow.{pow-add, pow_mono}
use lib.Seq.{drop-drop, get_or-drop, take-suc}
use borrow.Author.Tests.{eq-eqb, eqb-true, eqb-false, ne_eqb, le-leb, lt-leb}
use Rattle.format.specs.Format.{choose}
use Rattle.charset.specs.declared.Charset.{Charset}
use Rattle.charset.specs.declared.Charset.TheVariants.{Fsw, Swu}
use Rattle.charset.specs.Tokens.{tokens}
use Rattle.charset.proofs.Coding.{by_test}
use Rattle.prefixes.specs.Words.{number_from, number, lead_byte, begins, words_from, marked, words_in, words_at}
use Rattle.prefixes.specs.Inner.{word_in, with_word, no_prefix, first_size, WordAt, MarkedAt, FirstAt}

-- BYTES
number_push : (acc : ℕ) (l : List ℕ) (b : ℕ) → number_from acc (l ++ (b ∷ [])) ≡ number_from acc l * 256 + b
number_push acc [] b = refl
number_push acc (a ∷ l) b = number_push (acc * 256 + a) l b

pub number_more : (s : List ℕ) (i n b : ℕ) → i < length s → n ≡ number (take i s) → b ≡ get_or s i 0 → n * 256 + b ≡ number (take (i + 1) s)
number_more s i n b h e f = rw (add-one, take-suc s i 0 h, number_push 0 (take i s) (get_or s i 0), e, f)

pub one_byte : (s : List ℕ) (at : ℕ) → at < length s → get_or s at 0 ≡ number (take 1 (drop at s))
one_byte s at h =
    let z : at + 0 ≡ at = omega arith in
    let one : 0 * 256 + get_or s at 0 ≡ number (take 1 (drop at s)) =
    number_more (drop at s) 0 0 (get_or s at 0) (omega (arith, length-drop at s)) refl (sym (get_or-drop at s 0 0 ∙ ap (λ n. get_or s n 0) z)) in
    omega (arith, one)

pub number_six : (i n : ℕ) → n < 2 ^ (8 * i) → i ≤ 6 → n < 2 ^ 48
number_six i n h l =
    let z : 8 * i ≤ 48 = omega arith in
    omega (arith, pow_mono {i = 8 * i} {j = 48} z)

pub number_fits : (i n b : ℕ) → n < 2 ^ (8 * i) → b < 256 → n * 256 + b < 2 ^ (8 * (i + 1))
number_fits i n b h l =
    let z : 8 * (i + 1) ≡ 8 * i + 8 = omega arith in
    let p : 2 ^ (8 * (i + 1)) ≡ 2 ^ (8 * i) * 256 = ap (λ k. 2 ^ k) z ∙ pow-add 2 (8 * i) 8 in
    omega (arith, p)

pub number_room : (i n : ℕ) → n < 2 ^ (8 * i) → i < 8 → n * 256 < 2 ^ 64
number_room i n h l =
    let z : 8 * (i + 1) ≤ 64 = omega arith in
    omega (arith, number_fits i n 0 h (omega arith), pow_mono {i = 8 * (i + 1)} {j = 64} z)

-- a number is not less than its first byte
from_least : (acc : ℕ) (l : List ℕ) → acc ≤ number_from acc l
from_least acc [] = omega arith
from_least acc (b ∷ l) = let h = from_least (acc * 256 + b) l in omega arith

first_least : (n : ℕ) (text : List ℕ) → get_or text 0 0 ≤ number (take (suc n) text)
first_least n [] = omega arith
first_least n (b ∷ text) = let h = from_least (0 * 256 + b) (take n text) in omega arith

symbol_least : (set : Charset) (text : List ℕ) → get_or text 0 0 ≤ number (take (tokens set).symbol_size text)
symbol_least Fsw text = first_least 5 text
symbol_least Swu text = first_least 3 text

-- WORDS

not_both : (t : Bool) → (t && false) ≡ false
not_both true = refl
not_both false = refl

and_first : (t u : Bool) → (t && u) ≡ true → t ≡ true
and_first true u e = refl
and_first false u e = e

pub none_here : (set : Charset) (text : List ℕ) → begins set text ≡ false → (k : ℕ) → words_from set (suc k) text ≡ []
unfolding words_from
none_here set text e k = rw e

pub one_here : (set : Charset) (text : List ℕ) → begins set text ≡ true → (k : ℕ)
    → words_from set (suc k) text ≡ number (take (tokens set).symbol_size text) ∷ words_from set k (drop (tokens set).symbol_size text)
unfolding words_from
one_here set text e k = rw e

lead_positive : (set : Charset) → 0 < lead_byte set
lead_positive Fsw = omega arith
lead_positive Swu = omega arith

size_positive : (set : Charset) → 0 < (tokens set).symbol_size
size_positive Fsw = omega arith
size_positive Swu = omega arith

positive : (r : ℕ) (l : List ℕ) → 0 < r → r ∷ l ≡ with_word r l
positive zero l h = absurd (omega (arith, h))
positive (suc r) l h = refl

module _ (set : Charset) (s : List ℕ) (at : ℕ) where
  word_is : (k : ℕ) → begins set (drop at s) ≡ true
      → words_from set (suc k) (drop at s) ≡ number (take (tokens set).symbol_size (drop at s)) ∷ words_from set k (drop (at + (tokens set).symbol_size) s)
  word_is k e =
      one_here set (drop at s) e k
      ∙ ap (λ l. number (take (tokens set).symbol_size (drop at s)) ∷ words_from set k l) (drop-drop (tokens set).symbol_size at s)

  -- by the size and the lead byte of a symbol
  pub word_told : WordAt set s at (word_in (tokens set).symbol_size (lead_byte set) (drop at s))
  word_told = record { is = λ k. go (begins set (drop at s)) refl k }
    where
      go : (t : Bool) → begins set (drop at s) ≡ t → (k : ℕ)
          → words_from set (suc k) (drop at s) ≡ with_word (choose t (number (take (tokens set).symbol_size (drop at s))) 0) (words_from set k (drop (at + (tokens set).symbol_size) s))
      go true e k =
          let lead = eqb-true (get_or (drop at s) 0 0) (lead_byte set) (and_first _ _ e) in
          let h : 0 < number (take (tokens set).symbol_size (drop at s)) = omega (arith, lead_positive set, symbol_least set (drop at s), lead) in
          word_is k e ∙ positive _ _ h
      go false e k = none_here set (drop at s) e k

-- by the bytes that are looked at
module _ (s : List ℕ) (at size lead : ℕ) (some : 1 ≤ size) where
  lead_is : get_or (drop at s) 0 0 ≡ get_or s at 0
  lead_is = let z : at + 0 ≡ at = omega arith in get_or-drop at s 0 0 ∙ ap (λ n. get_or s n 0) z

  pub word_there : at + size ≤ length s → get_or s at 0 ≡ lead → (r : ℕ) → r ≡ number (take size (drop at s)) → r ≡ word_in size lead (drop at s)
  word_there room e r w =
      rw (eq-eqb (get_or (drop at s) 0 0) lead (lead_is ∙ e), le-leb size (length (drop at s)) (omega (arith, length-drop at s))) w

-- THE FIRST WORD

module _ (set : Charset) (s : List ℕ) (at : ℕ) where
  abbrev start : ℕ
  start = at + (tokens set).marker_size

  pub unmarked : (number (take (tokens set).marker_size (drop at s)) ≡ number (((tokens set).marker 0 0).write 0) → ⊥) → words_at set s at ≡ []
  unfolding words_in
  unmarked n = rw (ne_eqb (number (take (tokens set).marker_size (drop at s))) (number (((tokens set).marker 0 0).write 0)) n)

  -- whether or not there is an A
  pub cut_off : length s < at + (tokens set).marker_size → words_at set s at ≡ []
  unfolding words_in
  cut_off h =
      let none : begins set (drop start s) ≡ false = rw (lt-leb (tokens set).symbol_size (length (drop start s)) (omega (arith, length-drop start s, size_positive set)))
      (not_both (eqb (get_or (drop start s) 0 0) (lead_byte set))) in
      by_test (λ l. l ≡ []) (marked set (drop at s))
      (λ _. ap (words_from set 32) (drop-drop (tokens set).marker_size at s) ∙ none_here set (drop start s) none 31) λ _. refl

  pub not_there : length s < at + (tokens set).marker_size → (b : Bool) → b ≡ false → MarkedAt set s at b
  not_there h b e = record { yes = λ y. absurd (true≢false (sym y ∙ e)); no = λ n. cut_off h }

  pub told_by : (v : ℕ) → v ≡ number (take (tokens set).marker_size (drop at s)) → MarkedAt set s at (eqb v (number (((tokens set).marker 0 0).write 0)))
  told_by v e = record {
    yes = λ y. sym (ap (λ n. eqb n (number (((tokens set).marker 0 0).write 0))) e) ∙ y;
    no = λ n. unmarked λ q. eqb-false v (number (((tokens set).marker 0 0).write 0)) n (e ∙ q);
  }

  pub first_none : words_at set s at ≡ [] → FirstAt set s at no_prefix
  first_none e = record { is = e }

  module _ (m : marked set (drop at s) ≡ true) (w : ℕ) (p : WordAt set s start w) where
    opened : words_at set s at ≡ with_word w (words_from set 31 (drop (at + first_size set) s))
    unfolding words_in
    opened =
        let z : start + (tokens set).symbol_size ≡ at + first_size set = omega arith in
        rw m (ap (words_from set 32) (drop-drop (tokens set).marker_size at s) ∙ p.is 31 ∙ ap (λ n. with_word w (words_from set 31 (drop n s))) z)

    pub first_absent : w ≡ 0 → FirstAt set s at no_prefix
    first_absent z = first_none (opened ∙ rw z)

    pub first_there : (w ≡ 0 → ⊥) → w < 2 ^ 48 → FirstAt set s at w
    first_there z h = record {
      is = opened ∙ sym (positive w _ (omega (arith, z))) ∙ rw (ne_eqb w no_prefix (λ x. omega arith));
    }
