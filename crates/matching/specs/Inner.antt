-- A query that lies in words, a sign that lies in arrays, and what the functions that judge them answer.
use Rattle.std.specs.Prelude.{Option, None, Some, ℕ, zero, suc, ◌+◌, ◌*◌, ◌%◌, ◌≤◌, ◌<◌, ◌≡◌, List, map, Bool, false, ◌&&◌, ◌||◌, leb, ltb, eqb, length, get_or}
use Rattle.format.specs.Format.{choose}
use Rattle.grammar.specs.Sign.{Spatial, Meaning}
use Rattle.writer.specs.Arrays.{upto}
use Rattle.querygrammar.specs.Query.{present, kind_of}
use Rattle.matching.specs.Meets.{begins_by, within, first_from, Judgement, unmet, judged}

abbrev pub word : List ℕ → ℕ → ℕ
word words i = get_or words i 0

-- A ROW AND A SYMBOL

-- a code of lo to hi, whose remainder by 16 is turn unless turn is 16
unfoldable pub fits_numbers : ℕ → ℕ → ℕ → ℕ → Bool
fits_numbers lo hi turn code = leb lo code && (leb code hi && (eqb turn 16 || eqb (code % 16) turn))

-- the alternative at an offset, and one of the n from an offset on
abbrev pub fits_one : List ℕ → ℕ → ℕ → Bool
fits_one words at code = fits_numbers (word words at) (word words (at + 1)) (word words (at + 2)) code

unfoldable pub fits_row : List ℕ → ℕ → ℕ → ℕ → Bool
fits_row words at zero code = false
fits_row words at (suc n) code = fits_one words at code || fits_row words (at + 3) n code

-- the row at an offset and a code
unfoldable pub fits_at : List ℕ → ℕ → ℕ → Bool
fits_at words at code = fits_row words (at + 3) (word words (at + 2)) code

-- and a symbol, at the coordinate unless x is 0
unfoldable pub serves_at : List ℕ → ℕ → ℕ → Spatial → Bool
serves_at words at variance s =
    fits_at words at s.code
    && (eqb (word words at) 0 || (within variance (word words at) s.x && within variance (word words (at + 1)) s.y))

-- THE ROWS

-- the offset after the row at an offset, and that of row j
abbrev pub after : List ℕ → ℕ → ℕ
after words at = at + 3 + 3 * word words (at + 2)

abbrev pub offset : List ℕ → ℕ → ℕ
offset words zero = 4
offset words (suc j) = after words (offset words j)

-- words in which rows lie as the words of a query do
pub record Laid (words : List ℕ) : Type 0 where
  pub begun : 4 ≤ length words
  pub prefix_most : word words 1 ≤ 32
  pub items_most : word words 2 ≤ 32
  pub bare : word words 0 ≡ kind_of present → word words 1 ≡ 0
  pub rows : (j : ℕ) → j < word words 1 + word words 2 → after words (offset words j) ≤ length words

-- THE CONDITIONS

-- the offset after the first m rows where the codes fit them one by one
unfoldable pub after_rows : List ℕ → ℕ → List ℕ → Option ℕ
after_rows words m codes = choose (begins_by (fits_at words) (upto (offset words) m) codes) (Some (offset words m)) None

-- condition 0
unfoldable pub prefix_words : List ℕ → List ℕ → Bool
prefix_words words codes =
    choose (eqb (word words 0) (kind_of present)) (ltb 0 (length codes)) (begins_by (fits_at words) (upto (offset words) (word words 1)) codes)

unfoldable pub after_prefix : List ℕ → List ℕ → Option ℕ
after_prefix words codes = choose (prefix_words words codes) (Some (offset words (word words 1))) None

-- a number counted from 1, where there is one
abbrev pub counted : ℕ → Option ℕ
counted zero = None
counted (suc i) = Some (suc i)

-- the other conditions
unfoldable pub judged_words : List ℕ → List Spatial → Judgement
judged_words words symbols =
    judged (map (λ at. first_from 1 (serves_at words at (word words 3)) symbols) (upto (λ j. offset words (word words 1 + j)) (word words 2)))

unfoldable pub verdict_words : List ℕ → List ℕ → List Spatial → Judgement
verdict_words words codes symbols = choose (prefix_words words codes) (judged_words words symbols) (unmet 0)

abbrev pub verdict_in_words : List ℕ → Meaning → Judgement
verdict_in_words words m = verdict_words words m.prefix m.symbols
