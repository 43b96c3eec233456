-- The rows of items, one after the other.
use Prim.Native.Nat.{◌+◌, ◌*◌, ◌≤◌}
use mathlib.Core.Path.{◌≡◌, refl, sym, ap, ◌∙◌}
use mathlib.Core.List.{List, [], ◌∷◌, ◌++◌, append_assoc, map}
use lib.ListN.{length, length-append, length-map}
use native.Mathlib.Omega.{arith}
use Rattle.format.specs.Format.{All}
use Rattle.querygrammar.specs.Spelling.{Item}
use Rattle.querygrammar.specs.Query.{Sought, Query, lists_of, sought_lists}
use Rattle.queryitem.specs.Words.{spare, word_count, items_words, row_words, rows_words, bare, words_of}

pub rows_append : (l m : List Sought) → rows_words (l ++ m) ≡ rows_words l ++ rows_words m
rows_append [] m = refl
rows_append (s ∷ l) m = ap (λ k. row_words s ++ k) (rows_append l m) ∙ sym (append_assoc (row_words s) (rows_words l) (rows_words m))

pub items_size : (l : List Item) → length (items_words l) ≡ 3 * length l
items_size [] = refl
items_size (i ∷ l) = let k = items_size l in omega arith

-- at most eight alternatives each
abbrev pub Few : List (List Item) → Type 0
Few = All (λ l. length l ≤ 8)

pub rows_most : (l : List Sought) → Few (map (λ s. s.alternatives) l) → length (rows_words l) ≤ 27 * length l
rows_most [] few = omega arith
rows_most (s ∷ l) few = omega (arith, rows_most l few.1, items_size s.alternatives, few.0, length-append (row_words s) (rows_words l))

bare_few : (l : List (List Item)) → Few l → Few (map (λ s. s.alternatives) (map bare l))
bare_few [] few = tt
bare_few (a ∷ l) few = (few.0, bare_few l few.1)

-- a query within the limits has room, and 21 words are left
pub words_room : (q : Query) → length (lists_of q.prefix) ≤ 32 → length q.items ≤ 32 → Few (lists_of q.prefix) → Few (sought_lists q) → length (words_of q) + spare ≤ word_count
unfolding words_of
words_room q a b c d =
    let p = map bare (lists_of q.prefix) in
    omega (arith, rows_most p (bare_few (lists_of q.prefix) c), rows_most q.items d, length-map (lists_of q.prefix) bare, length-append (rows_words p) (rows_words q.items), a, b)
