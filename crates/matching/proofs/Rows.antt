-- The loops over the rows of a query: one law for each way on or out.
use Rattle.std.specs.Prelude.{Option, None, Some, ltb}
use Rattle.std.specs.Bool.{then_some}
use Prim.Native.Nat.{ℕ, zero, suc, ◌+◌, ◌≤◌, ◌<◌}
use mathlib.Core.Path.{◌≡◌, refl, sym, ap, ◌∙◌}
use mathlib.Core.List.{List, map}
use mathlib.Core.Bool.{Bool, true, false}
use lib.ListN.{length, set, take, get_or}
use Rattle.std.proofs.lemmas.List.{get_or-take, length-take-le}
use native.Mathlib.Omega.{arith}
use native.Mathlib.Numerals.{add-one}
use borrow.Author.Tests.{eq-eqb, ne_eqb}
use Rattle.format.specs.Format.{choose}
use Rattle.grammar.specs.Sign.{Spatial}
use Rattle.token.specs.Padded.{zeros}
use Rattle.writer.specs.Arrays.{upto}
use Rattle.matching.specs.declared.Verdict.{Verdict}
use Rattle.matching.specs.declared.Verdict.TheVariants.{Met, Unmet}
use Rattle.matching.specs.Meets.{first_from, unmet, judged, told}
use Rattle.matching.proofs.Loops.{Passed, match_short, match_not, match_all, Judging, judging_start, judging_on, judged_not, judged_all, held_all}
use Rattle.matching.specs.Inner.{word, fits_at, serves_at, after, offset, Laid, counted, after_rows, prefix_words, after_prefix, judged_words, verdict_words}

offset_next : (words : List ℕ) (j at : ℕ) → at ≡ offset words j → after words at ≡ offset words (j + 1)
offset_next words j at e = ap (after words) e ∙ ap (offset words) (sym (add-one j))

-- THE PREFIX

pub record Begun (words codes : List ℕ) (m at j : ℕ) : Type 0 where
  pub here : at ≡ offset words j
  pub most : j ≤ m
  pub passed : Passed (λ i. fits_at words (offset words i) (get_or codes i 0)) true j

module _ (words codes : List ℕ) (m : ℕ) where
  pub begun_short : length codes < m → None ≡ after_rows words m codes
  unfolding after_rows
  begun_short h = rw (← match_short (fits_at words) (offset words) codes m h)

  -- the codes that the prefix asks for are walked in order
  module _ (at j : ℕ) (v : Begun words codes m at j) (k : m ≤ length codes) where
    few : length (take m codes) ≡ m
    few = length-take-le m codes (omega arith)

    test-here : {t : Bool} → j < length (take m codes) → t ≡ fits_at words at (get_or (take m codes) j 0) → fits_at words (offset words j) (get_or codes j 0) ≡ t
    test-here h e = let f = few in ap (λ c. fits_at words (offset words j) c) (sym (get_or-take m codes j 0 (omega arith))) ∙ rw (← v.here) (sym e)

    pub begun_not : {t : Bool} → j < length (take m codes) → t ≡ fits_at words at (get_or (take m codes) j 0) → t ≡ false → None ≡ after_rows words m codes
    unfolding after_rows
    begun_not h e z =
        let f = few in
        rw (← match_not (fits_at words) (offset words) codes m k j (omega arith) (test-here h e ∙ z))

    pub begun_all : length (take m codes) ≤ j → Some at ≡ after_rows words m codes
    unfolding after_rows
    begun_all h =
        let f = few in
        let q : j ≡ m = let x = v.most in omega arith in
        rw (← match_all (fits_at words) (offset words) codes m k j (omega arith) v.passed) (ap Some (v.here ∙ ap (offset words) q))

module _ (words codes : List ℕ) where
  pub prefix_asked : Laid words → word words 0 ≡ 1 → {t : Bool} → t ≡ ltb 0 (length codes) → then_some {T = ℕ} t 4 ≡ after_prefix words codes
  unfolding after_prefix prefix_words
  prefix_asked l e {t} h = rw (eq-eqb (word words 0) 1 e, l.bare e, ← h) (go t)
    where
      go : (t : Bool) → then_some {T = ℕ} t 4 ≡ choose t (Some 4) None
      go true = refl
      go false = refl

  pub rows_asked : (word words 0 ≡ 1 → ⊥) → (r : Option ℕ) → r ≡ after_rows words (word words 1) codes → r ≡ after_prefix words codes
  unfolding after_prefix prefix_words after_rows
  rows_asked n r e = rw (ne_eqb (word words 0) 1 n) e

-- THE SIGNBOX

is_counted : {w : ℕ} (n : ℕ) → Some w ≡ counted n → w ≡ n
is_counted zero e = absurd (cc)
is_counted (suc n) e = cc

not_none : {w : ℕ} (n : ℕ) → Some w ≡ counted n → n ≡ 0 → ⊥
not_none zero e z = cc
not_none (suc n) e z = omega arith

uncounted : (n : ℕ) → None ≡ counted n → n ≡ 0
uncounted zero e = refl
uncounted (suc n) e = absurd (cc)

abbrev pub witness_at : List ℕ → List Spatial → ℕ → ℕ
witness_at words symbols at = first_from 1 (serves_at words at (word words 3)) symbols

abbrev pub row_of : List ℕ → ℕ → ℕ
row_of words j = offset words (word words 1 + j)

pub record Judged (words : List ℕ) (symbols : List Spatial) (n i j : ℕ) (out : List ℕ) : Type 0 where
  pub here : i ≡ row_of words j
  pub judging : Judging (witness_at words symbols) (row_of words) n j out

module _ (words : List ℕ) (symbols : List Spatial) (n : ℕ) where
  pub judged_start : (at : ℕ) → at ≡ offset words (word words 1) → Judged words symbols n at 0 (zeros 32)
  judged_start at e =
      let k : word words 1 ≡ word words 1 + 0 = omega arith in
      record { here = e ∙ ap (offset words) k; judging = judging_start (witness_at words symbols) (row_of words) n }

  module _ (i j : ℕ) (out : List ℕ) (v : Judged words symbols n i j out) where
    pub judged_on : j < n → {w : ℕ} → Some w ≡ counted (first_from 1 (serves_at words i (word words 3)) symbols) → {next : ℕ} → next ≡ after words i → Judged words symbols n next (j + 1) (set out j w)
    judged_on h {w} e q =
        let k : word words 1 + j + 1 ≡ word words 1 + (j + 1) = omega arith in
        let f : w ≡ first_from 1 (serves_at words i (word words 3)) symbols = is_counted _ e in
        record {
          here = q ∙ offset_next words (word words 1 + j) i v.here ∙ ap (offset words) k;
          judging = judging_on (witness_at words symbols) (row_of words) n j out v.judging h w (f ∙ ap (witness_at words symbols) v.here) (λ z. not_none _ e (sym f ∙ z));
        }

    pub rows_not : n ≡ word words 2 → j < n → None ≡ counted (first_from 1 (serves_at words i (word words 3)) symbols) → Unmet (j + 1) ≡ told (judged_words words symbols)
    unfolding judged_words
    rows_not c h e = ap told (judged_not (witness_at words symbols) (row_of words) n j out v.judging h (ap (witness_at words symbols) (sym v.here) ∙ uncounted _ e) ∙ ap (λ n. judged (map (witness_at words symbols) (upto (row_of words) n))) c)

    pub rows_all : n ≡ word words 2 → n ≤ j → Met out ≡ told (judged_words words symbols)
    unfolding judged_words
    rows_all c h =
        ap Met (held_all (witness_at words symbols) (row_of words) n j out v.judging h)
        ∙ ap told (judged_all (witness_at words symbols) (row_of words) n j out v.judging h ∙ ap (λ n. judged (map (witness_at words symbols) (upto (row_of words) n))) c)

-- THE VERDICT

module _ (words codes : List ℕ) where
  starts : (t : Bool) (o at : ℕ) → Some at ≡ choose t (Some o) None → (t ≡ true) × (at ≡ o)
  starts true o at e = (refl, cc)
  starts false o at e = absurd (cc)

  fails : (t : Bool) (o : ℕ) → None ≡ choose t (Some o) None → t ≡ false
  fails true o e = absurd (cc)
  fails false o e = refl

  pub verdict_not : (symbols : List Spatial) → None ≡ after_prefix words codes → Unmet 0 ≡ told (verdict_words words codes symbols)
  unfolding verdict_words after_prefix
  verdict_not symbols e = ap (λ t. told (choose t (judged_words words symbols) (unmet 0))) (sym (fails (prefix_words words codes) _ e))

  module _ (at : ℕ) (e : Some at ≡ after_prefix words codes) where
    pub verdict_start : at ≡ offset words (word words 1)
    unfolding after_prefix
    verdict_start = (starts (prefix_words words codes) _ at e).1

    pub verdict_rows : (symbols : List Spatial) (r : Verdict) → r ≡ told (judged_words words symbols) → r ≡ told (verdict_words words codes symbols)
    unfolding verdict_words after_prefix
    verdict_rows symbols r q = q ∙ ap (λ t. told (choose t (judged_words words symbols) (unmet 0))) (sym (starts (prefix_words words codes) _ at e).0)
