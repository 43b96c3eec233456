-- Comparing the words of two prefixes: one law for each way on or out.
use Prim.Native.Nat.{ℕ, zero, suc, ◌+◌, ◌-◌, ◌*◌, ◌≤◌, ◌<◌}
use mathlib.Core.Path.{◌≡◌, refl, sym, ap, ◌∙◌}
use mathlib.Core.List.{List, [], ◌∷◌}
use mathlib.Core.Bool.{Bool, false}
use native.Mathlib.Omega.{arith}
use lib.Dec.{eqb, ltb}
use lib.ListN.{drop}
use borrow.Author.Tests.{lt-ltb, le-ltb, eqb-true, eq-eqb, ne_eqb}
use Rattle.charset.specs.declared.Charset.{Charset}
use Rattle.charset.specs.declared.Charset.TheVariants.{Fsw, Swu}
use Rattle.charset.specs.Tokens.{tokens}
use Rattle.charset.proofs.Coding.{by_test}
use Rattle.arrangement.specs.Prefixes.{less_codes, prefix_before}
use Rattle.arrangement.proofs.Prefixes.{less_same, less_apart, none_less, less_none}
use Rattle.prefixes.specs.Words.{words_from, words_at}
use Rattle.prefixes.specs.Inner.{with_word, no_prefix, with_first, first_size, WordAt, FirstAt}

-- the sizes are small
pub symbol_size_most : (set : Charset) → (tokens set).symbol_size ≤ 6
symbol_size_most Fsw = omega arith
symbol_size_most Swu = omega arith

pub marker_size_most : (set : Charset) → (tokens set).marker_size ≤ 4
marker_size_most Fsw = omega arith
marker_size_most Swu = omega arith

pub sizes : (set : Charset) (marker symbol : ℕ) → marker ≡ (tokens set).marker_size → symbol ≡ (tokens set).symbol_size → marker + symbol ≡ first_size set
sizes set marker symbol e f = cc

-- WORDS, 0 for none

less_differ : (a b : ℕ) (k l : List ℕ) → (a ≡ b → ⊥) → ltb a b ≡ less_codes (with_word a k) (with_word b l)
less_differ zero zero k l h = absurd (h refl)
less_differ zero (suc d) k l h = lt-ltb 0 (suc d) (omega arith) ∙ sym (none_less (suc d) l)
less_differ (suc c) zero k l h = le-ltb (suc c) 0 (omega arith) ∙ sym (less_none (suc c ∷ k))
less_differ (suc c) (suc d) k l h = sym (less_apart (suc c) (suc d) k l h)

less_over : (a b : ℕ) (k l : List ℕ) → a ≡ b → a ≡ 0 → false ≡ less_codes (with_word a k) (with_word b l)
less_over zero zero k l h z = sym (less_none [])
less_over zero (suc d) k l h z = absurd (omega (arith, h))
less_over (suc c) b k l h z = absurd (omega (arith, z))

less_on : (a b : ℕ) (k l : List ℕ) → a ≡ b → (a ≡ 0 → ⊥) → less_codes (with_word a k) (with_word b l) ≡ less_codes k l
less_on zero b k l h z = absurd (z refl)
less_on (suc c) zero k l h z = absurd (omega (arith, h))
less_on (suc c) (suc d) k l h z = less_same (suc c) (suc d) k l h

-- the loop: what is left of both decides the same
pub record Comparing (set : Charset) (s : List ℕ) (i j x y left : ℕ) : Type 0 where
  pub most : left ≤ 31
  pub one : x + 6 * left ≤ i + 186
  pub two : y + 6 * left ≤ j + 186
  pub same : less_codes (words_from set 31 (drop i s)) (words_from set 31 (drop j s)) ≡ less_codes (words_from set left (drop x s)) (words_from set left (drop y s))

pub comparing_start : (set : Charset) (s : List ℕ) (i j : ℕ) → Comparing set s i j i j 31
comparing_start set s i j = record { most = omega arith; one = omega arith; two = omega arith; same = refl }

module _ {set : Charset} {s : List ℕ} {i j x y left : ℕ} (v : Comparing set s i j x y left) where
  abbrev whole : Bool
  whole = less_codes (words_from set 31 (drop i s)) (words_from set 31 (drop j s))

  pub comparing_end : left ≤ 0 → false ≡ whole
  unfolding words_from
  comparing_end h =
      let z : left ≡ 0 = omega arith in
      sym (v.same ∙ ap (λ n. less_codes (words_from set n (drop x s)) (words_from set n (drop y s))) z ∙ less_none [])

  module _ (a b : ℕ) (h : 0 < left) (p : WordAt set s x a) (q : WordAt set s y b) where
    abbrev k : List ℕ
    k = words_from set (left - 1) (drop (x + (tokens set).symbol_size) s)

    abbrev l : List ℕ
    l = words_from set (left - 1) (drop (y + (tokens set).symbol_size) s)

    opened : whole ≡ less_codes (with_word a k) (with_word b l)
    opened =
        let n : left ≡ suc (left - 1) = omega arith in
        v.same ∙ ap (λ m. less_codes (words_from set m (drop x s)) (words_from set m (drop y s))) n
        ∙ ap (λ m. less_codes m (words_from set (suc (left - 1)) (drop y s))) (p.is (left - 1)) ∙ ap (less_codes (with_word a k)) (q.is (left - 1))

    pub comparing_differ : (a ≡ b → ⊥) → ltb a b ≡ whole
    comparing_differ d = less_differ a b k l d ∙ sym opened

    pub comparing_over : a ≡ b → a ≡ 0 → false ≡ whole
    comparing_over e z = less_over a b k l e z ∙ sym opened

    pub comparing_on : (size : ℕ) → size ≡ (tokens set).symbol_size → a ≡ b → (a ≡ 0 → ⊥) → Comparing set s i j (x + size) (y + size) (left - 1)
    comparing_on size z e d =
        let m = symbol_size_most set in
        record {
          most = omega arith;
          one = omega arith;
          two = omega arith;
          same = opened ∙ less_on a b k l e d
              ∙ ap (λ n. less_codes (words_from set (left - 1) (drop (x + n) s)) (words_from set (left - 1) (drop (y + n) s))) (sym z);
        }

-- WHOLE PREFIXES, the greatest number for none

before_differ : (a b : ℕ) (k l : List ℕ) → a ≤ no_prefix → b ≤ no_prefix → (a ≡ b → ⊥) → ltb a b ≡ prefix_before (with_first a k) (with_first b l)
unfolding prefix_before
before_differ a b k l f g d =
    by_test (λ p. ltb a b ≡ prefix_before p (with_first b l)) (eqb a no_prefix)
    (λ e. le-ltb a b (omega (arith, eqb-true a no_prefix e)))
    λ e. by_test (λ q. ltb a b ≡ prefix_before (a ∷ k) q) (eqb b no_prefix)
    (λ h. lt-ltb a b (let n : b ≡ no_prefix = eqb-true b no_prefix h in omega arith))
    λ h. sym (less_apart a b k l d)

before_none : (a : ℕ) (k q : List ℕ) → a ≡ no_prefix → false ≡ prefix_before (with_first a k) q
unfolding prefix_before
before_none a k q e = rw (eq-eqb a no_prefix e)

before_rest : (a b : ℕ) (k l : List ℕ) → a ≡ b → (a ≡ no_prefix → ⊥) → less_codes k l ≡ prefix_before (with_first a k) (with_first b l)
unfolding prefix_before
before_rest a b k l e n = rw (ne_eqb a no_prefix n, ne_eqb b no_prefix (λ z. n (e ∙ z))) (sym (less_same a b k l e))

module _ (set : Charset) (s : List ℕ) (i j a b : ℕ) (p : FirstAt set s i a) (q : FirstAt set s j b) where
  abbrev after : ℕ → List ℕ
  after at = words_from set 31 (drop (at + first_size set) s)

  back : prefix_before (with_first a (after i)) (with_first b (after j)) ≡ prefix_before (words_at set s i) (words_at set s j)
  back = sym (ap (λ x. prefix_before x (words_at set s j)) p.is ∙ ap (prefix_before (with_first a (after i))) q.is)

  pub prefix_differ : a ≤ no_prefix → b ≤ no_prefix → (a ≡ b → ⊥) → ltb a b ≡ prefix_before (words_at set s i) (words_at set s j)
  prefix_differ f g d = before_differ a b (after i) (after j) f g d ∙ back

  pub prefix_none : a ≡ no_prefix → false ≡ prefix_before (words_at set s i) (words_at set s j)
  prefix_none z = before_none a (after i) (with_first b (after j)) z ∙ back

  -- the first words are the same, and the rest decides
  pub prefix_rest : (first : ℕ) (r : Bool) → a ≡ b → (a ≡ no_prefix → ⊥) → first ≡ first_size set
      → r ≡ less_codes (words_from set 31 (drop (i + first) s)) (words_from set 31 (drop (j + first) s)) → r ≡ prefix_before (words_at set s i) (words_at set s j)
  prefix_rest first r e n z w =
      w ∙ ap (λ n. less_codes (words_from set 31 (drop (i + n) s)) (words_from set 31 (drop (j + n) s))) z
      ∙ before_rest a b (after i) (after j) e n ∙ back
