-- The number of lines, counted byte by byte and in blocks of 64.
use Prim.Native.Nat.{ℕ, zero, suc, ◌+◌, ◌≤◌, ◌<◌}
use mathlib.Core.Path.{◌≡◌, refl, ap, ◌∙◌}
use mathlib.Core.List.{List, [], ◌∷◌}
use mathlib.Core.Bool.{Bool, true, false}
use lib.Dec.{eqb}
use lib.ListN.{length, take, drop, get_or, drop_of_length-le, length-take}
use lib.Seq.{drop-cons, drop-drop}
use native.Mathlib.Omega.{arith}
use native.Mathlib.Numerals.{add-one}
use borrow.Author.Tests.{eq-eqb, ne_eqb}
use Rattle.lines.specs.Lines.{byte_before, lines}

abbrev pub count_of : List ℕ → ℕ
count_of d = length (lines d)

abbrev one : Bool → ℕ
one true = 1
one false = 0

before_count : (t : Bool) (b : ℕ) (ls : List (List ℕ)) → length (byte_before t b ls) ≡ one t + length ls
before_count true b ls = omega arith
before_count false b [] = refl
before_count false b (l ∷ ls) = omega arith

count_cons : (b : ℕ) (d : List ℕ) → count_of (b ∷ d) ≡ one (eqb b 10) + count_of d
unfolding lines
count_cons b d = before_count (eqb b 10) b (lines d)

count_most : (d : List ℕ) → count_of d ≤ length d
unfolding lines
count_most [] = omega arith
count_most (b ∷ d) = go (eqb b 10) (count_cons b d) (count_most d)
  where
    go : (t : Bool) → count_of (b ∷ d) ≡ one t + count_of d → count_of d ≤ length d → count_of (b ∷ d) ≤ suc (length d)
    go true e h = omega arith
    go false e h = omega arith

-- of the first k bytes and of the rest
count_split : (k : ℕ) (d : List ℕ) → count_of d ≡ count_of (take k d) + count_of (drop k d)
unfolding lines
count_split zero [] = refl
count_split zero (b ∷ d) = omega arith
count_split (suc k) [] = refl
count_split (suc k) (b ∷ d) = omega (arith, count_cons b d, count_cons b (take k d), count_split k d)

count_block : (d : List ℕ) (i : ℕ) → count_of (drop i d) ≡ count_of (take 64 (drop i d)) + count_of (drop (i + 64) d)
count_block d i = count_split 64 (drop i d) ∙ ap (λ (l : List ℕ). count_of (take 64 (drop i d)) + count_of l) (drop-drop 64 i d)

count_here : (d : List ℕ) (i k : ℕ) → i < length d → k ≡ i + 1 → count_of (drop i d) ≡ one (eqb (get_or d i 0) 10) + count_of (drop k d)
count_here d i k h e = rw (e, drop-cons d i 0 h, add-one i) (count_cons (get_or d i 0) (drop (suc i) d))

count_none : (d : List ℕ) (i : ℕ) → length d ≤ i → count_of (drop i d) ≡ 0
unfolding lines
count_none d i h = rw (drop_of_length-le d h)

-- n lines were counted up to i, and t is the number that is right
module _ (d : List ℕ) (i k n t : ℕ) (h : i < length d) (f : k ≡ i + 1) (e : t ≡ n + count_of (drop i d)) where
  pub count_ten : get_or d i 0 ≡ 10 → t ≡ n + 1 + count_of (drop k d)
  count_ten g =
      let s : count_of (drop i d) ≡ 1 + count_of (drop k d) = count_here d i k h f ∙ rw (eq-eqb _ _ g) in
      omega arith

  pub count_other : (get_or d i 0 ≡ 10 → ⊥) → t ≡ n + count_of (drop k d)
  count_other g =
      let s : count_of (drop i d) ≡ 0 + count_of (drop k d) = count_here d i k h f ∙ rw (ne_eqb _ _ g) in
      omega arith

pub count_more : (d : List ℕ) (i n t b : ℕ) → t ≡ n + count_of (drop i d) → b ≡ count_of (take 64 (drop i d)) → t ≡ n + b + count_of (drop (i + 64) d)
count_more d i n t b e f = omega (arith, e, f, count_block d i)

pub block_is : (d : List ℕ) (i k n : ℕ) → k ≡ 64 → count_of (drop i d) ≡ n + count_of (drop (i + k) d) → n ≡ count_of (take 64 (drop i d))
block_is d i k n h e =
    let s : count_of (drop i d) ≡ n + count_of (drop (i + 64) d) = rw (← h) e in
    omega (arith, count_block d i)

pub block_most : (d : List ℕ) (i b : ℕ) → b ≡ count_of (take 64 (drop i d)) → b ≤ 64
block_most d i b e = omega (arith, count_most (take 64 (drop i d)), length-take 64 (drop i d))

pub count_end : (d : List ℕ) (i n : ℕ) → count_of (drop 0 d) ≡ n + count_of (drop i d) → length d ≤ i → n ≡ count_of d
count_end d i n e h =
    let whole : count_of (drop 0 d) ≡ count_of d = refl in
    omega (arith, e, whole, count_none d i h)
