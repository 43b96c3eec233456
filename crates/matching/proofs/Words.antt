-- The tests over the row of an item are those over the item.
use Prim.Native.Nat.{ℕ, ◌+◌}
use mathlib.Core.Path.{◌≡◌, refl, sym, ap, ◌∙◌}
use mathlib.Core.List.{List, [], ◌∷◌, ◌++◌}
use mathlib.Core.Bool.{◌&&◌, ◌||◌}
use mathlib.Core.Option.{Option, none, some}
use lib.Dec.{eqb}
use lib.ListN.{length, drop, get_or}
use lib.Seq.{drop-drop, get_or-drop}
use native.Mathlib.Omega.{arith}
use borrow.Author.Tests.{ne_eqb}
use Rattle.format.specs.Format.{All, Any}
use Rattle.grammar.specs.Sign.{Spatial, Number}
use Rattle.querygrammar.specs.Spelling.{Item}
use Rattle.querygrammar.specs.Query.{Sought, ValidItem, ValidSought}
use Rattle.queryitem.specs.Numbers.{lowest, highest, remainder, x_of, y_of}
use Rattle.queryitem.specs.Words.{items_words, row_words}
use Rattle.matching.specs.Meets.{satisfies_one, within, near, serves}
use Rattle.matching.specs.Inner.{word, fits_row, fits_at, serves_at}
use Rattle.matching.proofs.Numbers.{fits_item}

-- THE NEXT WORDS

word_here : (words : List ℕ) (at v : ℕ) (t : List ℕ) → drop at words ≡ v ∷ t → word words at ≡ v
word_here words at v t e = ap (λ i. get_or words i 0) (omega arith) ∙ sym (get_or-drop at words 0 0) ∙ ap (λ l. get_or l 0 0) e

word_on : (words : List ℕ) (at v : ℕ) (t : List ℕ) → drop at words ≡ v ∷ t → drop (at + 1) words ≡ t
word_on words at v t e = sym (drop-drop 1 at words) ∙ ap (drop 1) e

module _ (words : List ℕ) (at a b c : ℕ) (t : List ℕ) (e : drop at words ≡ a ∷ b ∷ c ∷ t) where
  first_word : word words at ≡ a
  first_word = word_here words at a (b ∷ c ∷ t) e

  second_word : word words (at + 1) ≡ b
  second_word = word_here words (at + 1) b (c ∷ t) (word_on words at a (b ∷ c ∷ t) e)

  third_on : drop (at + 2) words ≡ c ∷ t
  third_on =
      let k : at + 2 ≡ at + 1 + 1 = omega arith in
      ap (λ i. drop i words) k ∙ word_on words (at + 1) b (c ∷ t) (word_on words at a (b ∷ c ∷ t) e)

  pub third_word : word words (at + 2) ≡ c
  third_word = word_here words (at + 2) c t third_on

  pub after_three : drop (at + 3) words ≡ t
  after_three =
      let k : at + 3 ≡ at + 2 + 1 = omega arith in
      ap (λ i. drop i words) k ∙ word_on words (at + 2) c t third_on

-- ALTERNATIVES

fits_list : (words : List ℕ) (at : ℕ) (l : List Item) (rest : List ℕ) (code : ℕ) → drop at words ≡ items_words l ++ rest → All ValidItem l
    → fits_row words at (length l) code ≡ satisfies_one l code
unfolding fits_row satisfies_one
fits_list words at [] rest code e v = refl
fits_list words at (i ∷ l) rest code e v =
    let a = lowest i in
    let b = highest i in
    let c = remainder i in
    let t = items_words l ++ rest in
    rw (first_word words at a b c t e, second_word words at a b c t e, third_word words at a b c t e)
    (λ j. fits_item i code v.0 j || fits_list words (at + 3) l rest code (after_three words at a b c t e) v.1 j)

near_words : (variance : ℕ) (o : Option (ℕ × ℕ)) (symbol : Spatial) → Any (λ p. Number p.0 × Number p.1) o
    → (eqb (x_of o) 0 || (within variance (x_of o) symbol.x && within variance (y_of o) symbol.y)) ≡ near variance o symbol
near_words variance none symbol ok = refl
near_words variance (some p) symbol ok = rw (ne_eqb p.0 0 (λ e. omega (arith, ok.0.0))) refl

-- A ROW

module _ (words : List ℕ) (at : ℕ) (s : Sought) (rest : List ℕ) (e : drop at words ≡ row_words s ++ rest) (v : ValidSought s) where
  abbrev x : ℕ
  x = x_of s.coordinate

  abbrev y : ℕ
  y = y_of s.coordinate

  abbrev n : ℕ
  n = length s.alternatives

  abbrev t : List ℕ
  t = items_words s.alternatives ++ rest

  pub fits_row_lem : (code : ℕ) → fits_at words at code ≡ satisfies_one s.alternatives code
  unfolding fits_at
  fits_row_lem code =
      ap (λ n. fits_row words (at + 3) n code) (third_word words at x y n t e)
      ∙ fits_list words (at + 3) s.alternatives rest code (after_three words at x y n t e) v.0

  pub serves_row : (variance : ℕ) (symbol : Spatial) → serves_at words at variance symbol ≡ serves variance s symbol
  unfolding serves_at serves
  serves_row variance symbol =
      rw (first_word words at x y n t e, second_word words at x y n t e)
      (λ i. fits_row_lem symbol.code i && near_words variance s.coordinate symbol v.1 i)
