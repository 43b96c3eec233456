-- The words of a query are laid as the loops ask, and the verdict on them is the verdict on the query.
use Prim.Native.Nat.{ℕ, zero, suc, ◌+◌, ◌-◌, ◌≤◌, ◌<◌}
use mathlib.Core.Path.{◌≡◌, refl, sym, ap, ◌∙◌}
use mathlib.Core.List.{List, [], ◌∷◌, ◌++◌, append_assoc, map}
use mathlib.Core.Bool.{Bool, ◌&&◌}
use lib.Dec.{eqb, ltb}
use lib.ListN.{length, drop, get_or, length-append, length-drop, length-map, get_or-map, get_or-append}
use lib.Seq.{drop_at, drop-drop, get_or-append-add}
use native.Mathlib.Omega.{arith}
use borrow.Author.Tests.{lt-ltb}
use Rattle.format.specs.Format.{choose, All}
use Rattle.grammar.specs.Sign.{Spatial, Meaning}
use Rattle.token.specs.Padded.{padded}
use Rattle.token.proofs.PaddedLists.{padded_length, padded_append}
use Rattle.writer.specs.Arrays.{upto}
use Rattle.writer.proofs.Upto.{upto_is, map_upto}
use Rattle.querygrammar.specs.Spelling.{Item}
use Rattle.querygrammar.specs.Query.{Prefix, free, present, begins, Sought, Query, lists_of, kind_of, ValidItem, ValidSought, ValidQuery}
use Rattle.queryitem.specs.Words.{row_words, rows_words, bare, words_of}
use Rattle.queryitem.proofs.Rows.{rows_append, items_size}
use Rattle.matching.specs.Meets.{begins_by, first_from, unmet, judged, satisfies_one, prefix_holds, serves, witnesses_of, verdict_of}
use Rattle.matching.specs.Inner.{word, serves_at, after, offset, Laid, fits_at, prefix_words, judged_words, verdict_words}
use Rattle.matching.proofs.Words.{third_word, fits_row_lem, serves_row}

-- ROWS AT OFFSETS

onward : (words x y : List ℕ) (at : ℕ) → drop at words ≡ x ++ y → drop (at + length x) words ≡ y
onward words x y at e = sym (drop-drop (length x) at words) ∙ ap (drop (length x)) e ∙ drop_at x y (length x) refl

-- rows stand at an offset, and something after them
pub record Standing (words : List ℕ) (at : ℕ) (l : List Sought) : Type 0 where
  pub rest : List ℕ
  pub is : drop at words ≡ rows_words l ++ rest

module _ (words : List ℕ) (at : ℕ) (s : Sought) (l : List Sought) (v : Standing words at (s ∷ l)) where
  abbrev left : List ℕ
  left = rows_words l ++ v.rest

  row_first : drop at words ≡ row_words s ++ left
  row_first = v.is ∙ append_assoc (row_words s) (rows_words l) v.rest

  row_count : word words (at + 2) ≡ length s.alternatives
  row_count = third_word words at _ _ _ _ row_first

  pub standing_on : Standing words (after words at) l
  standing_on =
      let k : after words at ≡ at + length (row_words s) = omega (arith, row_count, items_size s.alternatives) in
      record { rest = v.rest; is = ap (λ i. drop i words) k ∙ onward words (row_words s) left at row_first }

  pub standing_inside : after words at ≤ length words
  standing_inside = omega (arith, row_count, items_size s.alternatives, ap length row_first, length-append (row_words s) left, length-drop at words)

-- row j of those from an offset on
abbrev row_from : List ℕ → ℕ → ℕ → ℕ
row_from words at zero = at
row_from words at (suc j) = row_from words (after words at) j

from_after : (words : List ℕ) (at j : ℕ) → row_from words (after words at) j ≡ after words (row_from words at j)
from_after words at zero = refl
from_after words at (suc j) = from_after words (after words at) j

offset_from : (words : List ℕ) (j : ℕ) → offset words j ≡ row_from words 4 j
offset_from words zero = refl
offset_from words (suc j) = ap (after words) (offset_from words j) ∙ sym (from_after words 4 j)

abbrev no_row : Sought
no_row = bare []

-- what stands at row j
pub record RowAt (words : List ℕ) (at : ℕ) (s : Sought) : Type 0 where
  pub rest : List ℕ
  pub is : drop at words ≡ row_words s ++ rest
  pub inside : after words at ≤ length words

row_at : (words : List ℕ) (at : ℕ) (l : List Sought) → Standing words at l → (j : ℕ) → j < length l → RowAt words (row_from words at j) (get_or l j no_row)
row_at words at [] v j h = absurd (omega arith)
row_at words at (s ∷ l) v zero h = record { rest = rows_words l ++ v.rest; is = row_first words at s l v; inside = standing_inside words at s l v }
row_at words at (s ∷ l) v (suc j) h = row_at words (after words at) l (standing_on words at s l v) j (omega arith)

all_at : {A : Type 0} (P : A → Type 0) (l : List A) (d : A) → All P l → (i : ℕ) → i < length l → P (get_or l i d)
all_at P [] d p i h = absurd (omega arith)
all_at P (a ∷ l) d p zero h = p.0
all_at P (a ∷ l) d p (suc i) h = all_at P l d p.1 i (omega arith)

-- THE WORDS OF A QUERY

module _ (q : Query) (n : ℕ) where
  abbrev asked : List (List Item)
  asked = lists_of q.prefix

  abbrev bares : List Sought
  bares = map bare asked

  abbrev words : List ℕ
  words = padded n (words_of q)

  bares_length : length bares ≡ length asked
  bares_length = length-map asked bare

  bare_go : (p : Prefix) → kind_of p ≡ 1 → length (lists_of p) ≡ 0
  bare_go free e = refl
  bare_go present e = refl
  bare_go (begins l) e = absurd (omega arith)

  module _ (room : length (words_of q) ≤ n) where
    abbrev rest : List ℕ
    rest = padded (n - length (words_of q)) []

    begin : words ≡ kind_of q.prefix ∷ length asked ∷ length q.items ∷ q.variance ∷ ((rows_words bares ++ rows_words q.items) ++ rest)
    unfolding words_of
    begin = padded_append (words_of q) (n - length (words_of q)) n (omega arith)

    kind-is : word words 0 ≡ kind_of q.prefix
    kind-is = ap (λ l. get_or l 0 0) begin

    asked_is : word words 1 ≡ length asked
    asked_is = ap (λ l. get_or l 1 0) begin

    items-is : word words 2 ≡ length q.items
    items-is = ap (λ l. get_or l 2 0) begin

    variance-is : word words 3 ≡ q.variance
    variance-is = ap (λ l. get_or l 3 0) begin

    standing : Standing words 4 (bares ++ q.items)
    standing = record { rest = rest; is = ap (drop 4) begin ∙ ap (λ l. l ++ rest) (sym (rows_append bares q.items)) }

    -- row j, of the prefix and of the signbox
    whole-at : (j : ℕ) → j < length (bares ++ q.items) → RowAt words (offset words j) (get_or (bares ++ q.items) j no_row)
    whole-at j h = rw (offset_from words j) (row_at words 4 (bares ++ q.items) standing j h)

    asked-at : (j : ℕ) → j < length asked → RowAt words (offset words j) (bare (get_or asked j []))
    asked-at j h =
        let k = bares_length in
        let e : get_or (bares ++ q.items) j no_row ≡ bare (get_or asked j []) = get_or-append bares q.items no_row j (omega arith) ∙ get_or-map bare asked j [] in
        rw e at (whole-at j (omega (arith, length-append bares q.items)))

    item-at : (j : ℕ) → j < length q.items → RowAt words (offset words (word words 1 + j)) (get_or q.items j no_row)
    item-at j h =
        let k : word words 1 + j ≡ length bares + j = omega (arith, asked_is, bares_length) in
        let e : get_or (bares ++ q.items) (length bares + j) no_row ≡ get_or q.items j no_row = get_or-append-add bares q.items j no_row in
        rw k (rw e at (whole-at (length bares + j) (omega (arith, length-append bares q.items))))

    pub laid : length asked ≤ 32 → length q.items ≤ 32 → Laid words
    laid few few-items = record {
      begun = omega (arith, ap length begin);
      prefix_most = omega (arith, asked_is);
      items_most = omega (arith, items-is);
      bare = λ e. asked_is ∙ bare_go q.prefix (sym kind-is ∙ e);
      rows = λ j h. omega (arith, padded_length n (words_of q), (whole-at j (omega (arith, asked_is, items-is, bares_length, length-append bares q.items))).inside);
    }

    -- THE VERDICT

    module _ (valid : ValidQuery q) where
      fits-same : (j : ℕ) → j < length asked → (code : ℕ) → fits_at words (offset words j) code ≡ satisfies_one (get_or asked j []) code
      fits-same j h code =
          let r = asked-at j h in
          fits_row_lem words (offset words j) (bare (get_or asked j [])) r.rest r.is (all_at (All ValidItem) asked [] valid.prefix j h, tt) code

      abbrev apply : (ℕ → Bool) → ℕ → Bool
      apply f code = f code

      begins-map : {A : Type 0} (test : A → ℕ → Bool) (l : List A) (codes : List ℕ) → begins_by test l codes ≡ begins_by apply (map test l) codes
      begins-map test [] codes = refl
      begins-map test (a ∷ l) [] = refl
      begins-map test (a ∷ l) (c ∷ codes) = ap (λ r. test a c && r) (begins-map test l codes)

      tests_same : upto (λ j. fits_at words (offset words j)) (word words 1) ≡ map satisfies_one asked
      tests_same =
          let k = length-map asked satisfies_one in
          ap (upto (λ j. fits_at words (offset words j))) (asked_is ∙ sym k)
          ∙ upto_is (λ j. fits_at words (offset words j)) (map satisfies_one asked) (satisfies_one []) (λ j h.
          let z : j < length asked = omega arith in
          (λ i code. fits-same j z code i) ∙ sym (get_or-map satisfies_one asked j []))

      begins-same : (codes : List ℕ) → begins_by (fits_at words) (upto (offset words) (word words 1)) codes ≡ begins_by satisfies_one asked codes
      begins-same codes =
          begins-map (fits_at words) (upto (offset words) (word words 1)) codes
          ∙ ap (λ l. begins_by apply l codes) (map_upto (fits_at words) (offset words) (word words 1) ∙ tests_same)
          ∙ sym (begins-map satisfies_one asked codes)

      prefix_go : (p : Prefix) (codes : List ℕ) → choose (eqb (kind_of p) 1) (ltb 0 (length codes)) (begins_by satisfies_one (lists_of p) codes) ≡ prefix_holds p codes
      unfolding prefix_holds
      prefix_go free codes = refl
      prefix_go present [] = refl
      prefix_go present (c ∷ codes) = lt-ltb 0 (suc (length codes)) (omega arith)
      prefix_go (begins l) codes = refl

      prefix_same : (codes : List ℕ) → prefix_words words codes ≡ prefix_holds q.prefix codes
      unfolding prefix_words
      prefix_same codes = rw (kind-is, begins-same codes) (prefix_go q.prefix codes)

      module _ (symbols : List Spatial) where
        serves-same : (j : ℕ) → j < length q.items → serves_at words (offset words (word words 1 + j)) (word words 3) ≡ serves q.variance (get_or q.items j no_row)
        serves-same j h =
            let r = item-at j h in
            ap (serves_at words (offset words (word words 1 + j))) variance-is
            ∙ (λ i s. serves_row words (offset words (word words 1 + j)) (get_or q.items j no_row) r.rest r.is (all_at ValidSought q.items no_row valid.items j h) q.variance s i)

        abbrev witness : Sought → ℕ
        witness s = first_from 1 (serves q.variance s) symbols

        abbrev found : ℕ → ℕ
        found at = first_from 1 (serves_at words at (word words 3)) symbols

        abbrev row_of : ℕ → ℕ
        row_of j = offset words (word words 1 + j)

        witnesses-same : upto (λ j. found (row_of j)) (word words 2) ≡ map witness q.items
        witnesses-same =
            let k = length-map q.items witness in
            ap (upto (λ j. found (row_of j))) (items-is ∙ sym k)
            ∙ upto_is (λ j. found (row_of j)) (map witness q.items) (witness no_row) (λ j h.
            let z : j < length q.items = omega arith in
            ap (λ test. first_from 1 test symbols) (serves-same j z) ∙ sym (get_or-map witness q.items j no_row))

        judged-same : judged_words words symbols ≡ judged (map witness q.items)
        unfolding judged_words
        judged-same = ap judged (map_upto found row_of (word words 2) ∙ witnesses-same)

      pub verdict : (m : Meaning) → verdict_words words m.prefix m.symbols ≡ verdict_of q m
      unfolding verdict_words verdict_of witnesses_of
      verdict m = λ i. choose (prefix_same m.prefix i) (judged-same m.symbols i) (unmet 0)
