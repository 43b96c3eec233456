-- Loops over the first places of arrays: the first that passes, items one by one, and the witnesses.
use Rattle.std.specs.Prelude.{None, Some}
use Prim.Native.Nat.{ℕ, zero, suc, ◌+◌, ◌≤◌, ◌<◌}
use mathlib.Core.Path.{◌≡◌, refl, sym, ap, ◌∙◌}
use mathlib.Core.List.{List, [], ◌∷◌, map, map-append}
use mathlib.Core.Bool.{Bool, true, false, ◌&&◌}
use mathlib.Core.Logic.{⊎_elim}
use lib.ListN.{length, length-map, get_or, set}
use native.Mathlib.Omega.{arith}
use native.Mathlib.Nat.{eq-or-lt_of_le}
use native.Mathlib.Numerals.{add-one}
use borrow.Author.Tests.{eq-eqb, ne_eqb}
use Rattle.token.specs.Padded.{padded, zeros}
use Rattle.token.proofs.PaddedLists.{padded_none, padded_put}
use Rattle.writer.specs.Arrays.{upto}
use Rattle.writer.proofs.Upto.{upto_length, upto_at, map_upto}
use Rattle.matching.specs.Meets.{begins_by, first_from, unmet, met, missing, judged}
use Rattle.matching.specs.Inner.{counted}

-- a test answers b at every place before i
abbrev pub Passed : (ℕ → Bool) → Bool → ℕ → Type 0
Passed test b i = (j : ℕ) → j < i → test j ≡ b

pub passed_none : (test : ℕ → Bool) (b : Bool) → Passed test b 0
passed_none test b j h = absurd (omega arith)

pub passed_more : (test : ℕ → Bool) (b : Bool) (i : ℕ) → Passed test b i → test i ≡ b → Passed test b (i + 1)
passed_more test b i p e j h =
    let le : j ≤ i = omega arith in
    ⊎_elim (λ z. ap test z ∙ e) (p j) (eq-or-lt_of_le le)

-- THE FIRST THAT PASSES

module _ {A : Type 0} (test : A → Bool) (d : A) where
  first_at : (l : List A) (k i : ℕ) → i < length l → Passed (λ j. test (get_or l j d)) false i → test (get_or l i d) ≡ true → k + i ≡ first_from k test l
  first_at [] k i h p e = absurd (omega arith)
  first_at (a ∷ l) k zero h p e = rw e (omega arith)
  first_at (a ∷ l) k (suc i) h p e =
      let next : k + 1 + i ≡ first_from (k + 1) test l = first_at l (k + 1) i (omega arith) (λ j q. p (suc j) (omega arith)) e in
      let f : test a ≡ false = p zero (omega arith) in
      rw f (omega arith)

  first_absent : (l : List A) (k : ℕ) → Passed (λ j. test (get_or l j d)) false (length l) → 0 ≡ first_from k test l
  first_absent [] k p = refl
  first_absent (a ∷ l) k p =
      let f : test a ≡ false = p zero (omega arith) in
      rw f (first_absent l (k + 1) (λ j q. p (suc j) (omega arith)))

module _ {A : Type 0} (test : A → Bool) (g : ℕ → A) (n i : ℕ) (p : Passed (λ j. test (g j)) false i) where
  pub first_found : i < n → test (g i) ≡ true → i + 1 ≡ first_from 1 test (upto g n)
  first_found h e =
      let l = upto_length g n in
      let s : i + 1 ≡ 1 + i = omega arith in
      s ∙ first_at test (g 0) (upto g n) 1 i (omega arith) (λ j q. ap test (upto_at g n j (g 0) (omega arith)) ∙ p j q) (ap test (upto_at g n i (g 0) h) ∙ e)

  pub first_none : n ≤ i → 0 ≡ first_from 1 test (upto g n)
  first_none h =
      let l = upto_length g n in
      first_absent test (g 0) (upto g n) 1 (λ j q. ap test (upto_at g n j (g 0) (omega arith)) ∙ p j (omega arith))

  pub number_found : i < n → test (g i) ≡ true → Some (i + 1) ≡ counted (first_from 1 test (upto g n))
  number_found h e = rw (← first_found h e, add-one) refl

  pub number_none : n ≤ i → None ≡ counted (first_from 1 test (upto g n))
  number_none h = ap counted (first_none h)

-- ITEMS ONE BY ONE

and_false : (t u : Bool) → false ≡ u → false ≡ t && u
and_false true u e = e
and_false false u e = refl

module _ {A : Type 0} (test : A → ℕ → Bool) (d : A) where
  begins_short : (l : List A) (codes : List ℕ) → length codes < length l → false ≡ begins_by test l codes
  begins_short [] codes h = absurd (omega arith)
  begins_short (a ∷ l) [] h = refl
  begins_short (a ∷ l) (c ∷ codes) h = and_false (test a c) (begins_by test l codes) (begins_short l codes (omega arith))

  begins_not : (l : List A) (codes : List ℕ) (j : ℕ) → j < length l → j < length codes → test (get_or l j d) (get_or codes j 0) ≡ false → false ≡ begins_by test l codes
  begins_not [] codes j h k e = absurd (omega arith)
  begins_not (a ∷ l) [] j h k e = refl
  begins_not (a ∷ l) (c ∷ codes) zero h k e = rw e refl
  begins_not (a ∷ l) (c ∷ codes) (suc j) h k e = and_false (test a c) (begins_by test l codes) (begins_not l codes j (omega arith) (omega arith) e)

  begins_all : (l : List A) (codes : List ℕ) → length l ≤ length codes → ((j : ℕ) → j < length l → test (get_or l j d) (get_or codes j 0) ≡ true) → true ≡ begins_by test l codes
  begins_all [] codes h p = refl
  begins_all (a ∷ l) [] h p = absurd (omega arith)
  begins_all (a ∷ l) (c ∷ codes) h p =
      let e : test a c ≡ true = p zero (omega arith) in
      rw e (begins_all l codes (omega arith) (λ j q. p (suc j) (omega arith)))

module _ {A : Type 0} (test : A → ℕ → Bool) (g : ℕ → A) (codes : List ℕ) (m : ℕ) where
  here : (j : ℕ) → j < m → test (get_or (upto g m) j (g 0)) (get_or codes j 0) ≡ test (g j) (get_or codes j 0)
  here j h = ap (λ a. test a (get_or codes j 0)) (upto_at g m j (g 0) h)

  pub match_short : length codes < m → false ≡ begins_by test (upto g m) codes
  match_short h =
      let a = upto_length g m in
      begins_short test (g 0) (upto g m) codes (omega arith)

  pub match_not : m ≤ length codes → (j : ℕ) → j < m → test (g j) (get_or codes j 0) ≡ false → false ≡ begins_by test (upto g m) codes
  match_not k j h e =
      let a = upto_length g m in
      begins_not test (g 0) (upto g m) codes j (omega arith) (omega arith) (here j h ∙ e)

  pub match_all : m ≤ length codes → (j : ℕ) → m ≤ j → Passed (λ i. test (g i) (get_or codes i 0)) true j → true ≡ begins_by test (upto g m) codes
  match_all k j h p =
      let a = upto_length g m in
      begins_all test (g 0) (upto g m) codes (omega arith) (λ i q. here i (omega arith) ∙ p i (omega arith))

-- THE WITNESSES

-- the witnesses of the first j of n items are in their places, and none is missing
pub record Judging {A : Type 0} (witness : A → ℕ) (g : ℕ → A) (n j : ℕ) (out : List ℕ) : Type 0 where
  pub most : j ≤ n
  pub held : out ≡ padded 32 (map witness (upto g j))
  pub passed : Passed (λ i. missing (witness (g i))) false j

module _ {A : Type 0} (witness : A → ℕ) (g : ℕ → A) (n : ℕ) where
  pub judging_start : Judging witness g n 0 (zeros 32)
  unfolding upto
  judging_start = record { most = omega arith; held = padded_none 32; passed = passed_none (λ i. missing (witness (g i))) false }

  module _ (j : ℕ) (out : List ℕ) (s : Judging witness g n j out) where
    pub judging_on : j < n → (w : ℕ) → w ≡ witness (g j) → (w ≡ 0 → ⊥) → Judging witness g n (j + 1) (set out j w)
    unfolding upto
    judging_on h w e z = record {
      most = omega arith;
      held = rw add-one (
          (λ i. set (s.held i) (sym (length-map (upto g j) witness ∙ upto_length g j) i) (e i))
          ∙ padded_put 32 (map witness (upto g j)) (witness (g j))
          ∙ ap (padded 32) (sym (map-append witness (upto g j) (g j ∷ [])))
          );
      passed = passed_more (λ i. missing (witness (g i))) false j s.passed (ne_eqb (witness (g j)) 0 (λ y. z (e ∙ y)));
    }

    pub judged_not : j < n → witness (g j) ≡ 0 → unmet (j + 1) ≡ judged (map witness (upto g n))
    unfolding judged
    judged_not h z =
        let e = first_found missing (λ i. witness (g i)) n j s.passed h (eq-eqb (witness (g j)) 0 z) in
        rw (map_upto witness g n, ← e, ne_eqb (j + 1) 0 (λ y. omega arith))

    pub judged_all : n ≤ j → met (map witness (upto g n)) ≡ judged (map witness (upto g n))
    unfolding judged
    judged_all h =
        let e = first_none missing (λ i. witness (g i)) n j s.passed h in
        rw (map_upto witness g n, ← e)

    pub held_all : n ≤ j → out ≡ padded 32 (map witness (upto g n))
    held_all h =
        let k = s.most in
        let e : j ≡ n = omega arith in
        s.held ∙ ap (λ i. padded 32 (map witness (upto g i))) e
