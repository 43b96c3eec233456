-- A query as words (u16), as it lies in lent memory:
--
--   kind  prefix items  signbox items  variance   then a row for each item, those of the prefix first:
--   x  y  alternatives                            then for each alternative:  lo  hi  turn
--
-- Rows say themselves where they end.
use Rattle.std.specs.Prelude.{ℕ, List, [], ◌∷◌, ◌++◌, map, length}
use Rattle.std.proofs.Math.Option.{none}
use Rattle.querygrammar.specs.Spelling.{Item}
use Rattle.querygrammar.specs.Query.{Sought, Query, lists_of, kind_of}
use Rattle.queryitem.specs.Numbers.{lowest, highest, remainder, x_of, y_of}

-- Reading a query leaves 21 words free at the end. So an array of 1753 has room for 32 prefix items and 32 signbox items of eight
-- alternatives each: 4 + 64 * 27 + 21.
abbrev pub spare : ℕ
spare = 21

abbrev pub word_count : ℕ
word_count = 1753

abbrev pub item_words : Item → List ℕ
item_words i = lowest i ∷ highest i ∷ remainder i ∷ []

abbrev pub items_words : List Item → List ℕ
items_words [] = []
items_words (i ∷ l) = item_words i ++ items_words l

abbrev pub row_words : Sought → List ℕ
row_words s = x_of s.coordinate ∷ y_of s.coordinate ∷ length s.alternatives ∷ items_words s.alternatives

abbrev pub rows_words : List Sought → List ℕ
rows_words [] = []
rows_words (s ∷ l) = row_words s ++ rows_words l

-- an item of the prefix has no coordinate
abbrev pub bare : List Item → Sought
bare l = record { alternatives = l; coordinate = none }

unfoldable pub words_of : Query → List ℕ
words_of q =
    kind_of q.prefix ∷ length (lists_of q.prefix) ∷ length q.items ∷ q.variance
    ∷ (rows_words (map bare (lists_of q.prefix)) ++ rows_words q.items)
