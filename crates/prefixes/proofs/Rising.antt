-- The words of prefix symbols rise with their codes, so prefixes compare by their words as by their codes.
use Prim.Native.Nat.{ℕ, zero, suc, ◌+◌, ◌-◌, ◌*◌, ◌/◌, ◌%◌, ◌≤◌, ◌<◌}
use mathlib.Core.Path.{◌≡◌, refl, sym, ap, ◌∙◌}
use mathlib.Core.List.{List, [], ◌∷◌, map}
use native.Mathlib.Nat.{mod-lt, suc-mul, mul-le-mul_right, div-add-mod'}
use native.Mathlib.Omega.{arith}
use lib.Dec.{ltb}
use borrow.Author.Tests.{ltb-true, ltb-false}
use Rattle.format.specs.Format.{All}
use Rattle.format.specs.Numeral.{Range}
use Rattle.charset.specs.declared.Charset.{Charset}
use Rattle.charset.specs.declared.Charset.TheVariants.{Fsw, Swu}
use Rattle.charset.specs.Bytes.{digit_byte, utf8}
use Rattle.charset.specs.Tokens.{last_location, last_code}
use Rattle.charset.proofs.Coding.{by_test}
use Rattle.arrangement.specs.Prefixes.{less_codes, prefix_before}
use Rattle.arrangement.proofs.Prefixes.{Which, lower, same, higher, which, less_none, none_less, less_same, less_lower, less_higher}
use Rattle.prefixes.specs.Words.{number, word_of}

-- DIGITS: a number rises with the number above its last digit, and with its last digit where that is the same

module _ (r w m n : ℕ) (g h : ℕ → ℕ) (digit : 0 < r) (less : m < n) where
  -- the quotients as g and the remainders as h, which are below w
  rises_by : (m / r < n / r → g (m / r) < g (n / r)) → (m % r < n % r → h (m % r) < h (n % r)) → h (m % r) < w
      → g (m / r) * w + h (m % r) < g (n / r) * w + h (n % r)
  rises_by up on small = go (which (m / r) (n / r))
    where
      go : Which (m / r) (n / r) → g (m / r) * w + h (m % r) < g (n / r) * w + h (n % r)
      go (lower k) = omega (arith, mul-le-mul_right w (up k), suc-mul (g (m / r)) w)
      go (same k) =
          let e : m / r * r ≡ n / r * r = ap (λ q. q * r) k in
          let f : g (m / r) * w ≡ g (n / r) * w = ap (λ q. g q * w) k in
          let l : m % r < n % r = omega (arith, div-add-mod' m r, div-add-mod' n r) in
          omega (arith, on l)
      go (higher k) = absurd (omega (arith, mul-le-mul_right r k, suc-mul (n / r) r, div-add-mod' m r, div-add-mod' n r, mod-lt n digit))

-- FSW

digit_rises : (d e : ℕ) → d < e → e < 16 → digit_byte d < digit_byte e
digit_rises d e h k =
    by_test (λ v. v < digit_byte e) (ltb d 10)
    (λ x. by_test (λ v. 48 + d < v) (ltb e 10) (λ y. omega arith) λ y. omega arith)
    λ x. by_test (λ v. 87 + d < v) (ltb e 10) (λ y. absurd (omega (arith, ltb-false d 10 x, ltb-true e 10 y))) λ y. omega arith

digit_small : (d : ℕ) → d < 16 → digit_byte d < 256
digit_small d h = by_test (λ v. v < 256) (ltb d 10) (λ x. omega arith) λ x. omega arith

-- two digits, and the S with three
pair : ℕ → ℕ
pair t = digit_byte (t / 16) * 256 + digit_byte (t % 16)

pair_rises : (m n : ℕ) → m < n → n < 256 → pair m < pair n
unfolding pair
pair_rises m n h k =
    rises_by 16 256 m n digit_byte digit_byte (omega arith) h (λ q. digit_rises (m / 16) (n / 16) q (omega arith))
    (λ q. digit_rises (m % 16) (n % 16) q (omega arith)) (digit_small (m % 16) (omega arith))

pair_small : (t : ℕ) → t < 256 → pair t < 65536
unfolding pair
pair_small t h = omega (arith, digit_small (t / 16) (omega arith), digit_small (t % 16) (omega arith))

start : ℕ → ℕ
start b = (83 * 256 + digit_byte (b / 256)) * 65536 + pair (b % 256)

start_rises : (m n : ℕ) → m < n → n < 4096 → start m < start n
unfolding start
start_rises m n h k =
    rises_by 256 65536 m n (λ d. 83 * 256 + digit_byte d) pair (omega arith) h (λ q. omega (arith, digit_rises (m / 256) (n / 256) q (omega arith)))
    (λ q. pair_rises (m % 256) (n % 256) q (omega arith)) (pair_small (m % 256) (omega arith))

keyed : ℕ → ℕ → ℕ
keyed b t = start b * 65536 + pair t

key_number : (b t : ℕ)
    → number (83 ∷ digit_byte (b / 256) ∷ digit_byte (b % 256 / 16) ∷ digit_byte (b % 256 % 16) ∷ digit_byte (t / 16) ∷ digit_byte (t % 16) ∷ []) ≡ keyed b t
unfolding keyed start pair
key_number b t = omega arith

fsw_null : word_of Fsw 0 ≡ keyed 0 0
unfolding word_of
fsw_null = key_number 0 0

fsw_key : (n : ℕ) → word_of Fsw (suc n) ≡ keyed (256 + n / 96) (n % 96)
unfolding word_of
fsw_key n =
    let e : suc n - 1 ≡ n = omega arith in
    key_number (256 + (suc n - 1) / 96) ((suc n - 1) % 96) ∙ ap (λ c. keyed (256 + c / 96) (c % 96)) e

key_rises : (m n : ℕ) → m < n → n < 96 * 1024 → keyed (256 + m / 96) (m % 96) < keyed (256 + n / 96) (n % 96)
unfolding keyed
key_rises m n h k =
    rises_by 96 65536 m n (λ q. start (256 + q)) pair (omega arith) h (λ q. start_rises (256 + m / 96) (256 + n / 96) (omega arith) (omega arith))
    (λ q. pair_rises (m % 96) (n % 96) q (omega arith)) (pair_small (m % 96) (omega arith))

null_below : (b t : ℕ) → 0 < b → b < 4096 → keyed 0 0 < keyed b t
unfolding keyed
null_below b t h k = omega (arith, start_rises 0 b h k, pair_small 0 (omega arith))

fsw_rises : (a b : ℕ) → a < b → b ≤ last_code last_location → word_of Fsw a < word_of Fsw b
fsw_rises a zero h k = absurd (omega (arith, h))
fsw_rises zero (suc n) h k = rw (fsw_null, fsw_key n) (null_below (256 + n / 96) (n % 96) (omega arith) (omega arith))
fsw_rises (suc m) (suc n) h k = rw (fsw_key m, fsw_key n) (key_rises m n (omega arith) (omega arith))

-- SWU: the first bytes of a character, by how many times its last six bits are left out

thrice : ℕ → ℕ
thrice c = 240 + c

twice : ℕ → ℕ
twice c = thrice (c / 64) * 256 + (128 + c % 64)

once : ℕ → ℕ
once c = twice (c / 64) * 256 + (128 + c % 64)

whole : ℕ → ℕ
whole c = once (c / 64) * 256 + (128 + c % 64)

more_rises : (g : ℕ → ℕ) → ((m n : ℕ) → m < n → g m < g n) → (m n : ℕ) → m < n → g (m / 64) * 256 + (128 + m % 64) < g (n / 64) * 256 + (128 + n % 64)
more_rises g up m n h = rises_by 64 256 m n g (λ d. 128 + d) (omega arith) h (up (m / 64) (n / 64)) (λ q. omega arith) (omega arith)

whole_rises : (m n : ℕ) → m < n → whole m < whole n
unfolding thrice twice once whole
whole_rises = more_rises once (more_rises twice (more_rises thrice λ m n h. omega arith))

character_number : (c : ℕ) → number (utf8 c) ≡ whole c
unfolding thrice twice once whole
character_number c =
    let e : c / 64 / 64 ≡ c / 4096 = omega arith in
    let f : c / 64 / 64 / 64 ≡ c / 262144 = omega arith in
    let g : c / 64 / 64 % 64 ≡ c / 4096 % 64 = ap (λ n. n % 64) e in
    omega (arith, f, g)

swu_rises : (a b : ℕ) → a < b → word_of Swu a < word_of Swu b
unfolding word_of
swu_rises a b h = rw (character_number (0x40000 + a), character_number (0x40000 + b)) (whole_rises (0x40000 + a) (0x40000 + b) (omega arith))

-- BOTH

rises : (set : Charset) (a b : ℕ) → a < b → b ≤ last_code last_location → word_of set a < word_of set b
rises Fsw a b h k = fsw_rises a b h k
rises Swu a b h k = swu_rises a b h

module _ (set : Charset) where
  abbrev words : List ℕ → List ℕ
  words = map (word_of set)

  less_words : (p q : List ℕ) → All (Range 0 (last_code last_location)) p → All (Range 0 (last_code last_location)) q
      → less_codes (words p) (words q) ≡ less_codes p q
  less_words p [] f g = less_none (words p) ∙ sym (less_none p)
  less_words [] (b ∷ q) f g = none_less (word_of set b) (words q) ∙ sym (none_less b q)
  less_words (a ∷ p) (b ∷ q) f g = go (which a b) (less_words p q f.1 g.1)
    where
      go : Which a b → less_codes (words p) (words q) ≡ less_codes p q → less_codes (words (a ∷ p)) (words (b ∷ q)) ≡ less_codes (a ∷ p) (b ∷ q)
      go (lower k) ih = less_lower (word_of set a) (word_of set b) (words p) (words q) (rises set a b k g.0.1) ∙ sym (less_lower a b p q k)
      go (same k) ih = less_same (word_of set a) (word_of set b) (words p) (words q) (ap (word_of set) k) ∙ ih ∙ sym (less_same a b p q k)
      go (higher k) ih = less_higher (word_of set a) (word_of set b) (words p) (words q) (rises set b a k f.0.1) ∙ sym (less_higher a b p q k)

  pub words_order : (p q : List ℕ) → All (Range 0 (last_code last_location)) p → All (Range 0 (last_code last_location)) q
      → prefix_before (map (word_of set) p) (map (word_of set) q) ≡ prefix_before p q
  unfolding prefix_before
  words_order [] q f g = refl
  words_order (a ∷ p) [] f g = refl
  words_order (a ∷ p) (b ∷ q) f g = less_words (a ∷ p) (b ∷ q) f g
