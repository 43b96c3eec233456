-- Sorting a list of entries (document 02, Q-12).
use Rattle.std.specs.Prelude.{ℕ, List, [], ◌++◌, Bool, leb, take, drop, replicate}
use Rattle.grammar.specs.Sign.{Meaning}
use Rattle.token.specs.Refusal.{list_wrong, room_short}
use Rattle.token.specs.Result.{Result, refusal, done, check, and_then}
use Rattle.narrowing.specs.Narrowing.{distinct, listed, check_lines}
use Rattle.arrangement.specs.Arranged.{arranged}
use Rattle.arrangement.specs.Prefixes.{prefix_before}
use Rattle.books.specs.Book.{Book, count_in, readable_in}

-- the temporal prefix of the sign that a line says, empty where it has none
abbrev pub prefix_of : Result Meaning → List ℕ
prefix_of (refusal number place) = []
prefix_of (done m) = m.prefix

-- entry e comes before entry i in dictionary order
unfoldable pub entry_before : Book → ℕ → ℕ → Bool
entry_before b e i = prefix_before (prefix_of (b.sign e)) (prefix_of (b.sign i))

-- the first n entries of a list in that order, with a second list of `room` places; refused as 12, 14, 11, 13, then as 6 with n
unfoldable pub sorted_in : Book → List ℕ → ℕ → ℕ → Result (List ℕ)
sorted_in b list n room =
    and_then (count_in b) λ lines.
    check (listed (distinct lines) list n) list_wrong 0
    (check_lines (readable_in b) (take n list)
    (check (leb n room) room_short n
    (done (arranged (entry_before b) (take n list)))))

-- the list memory after it: nothing is changed beyond n, nor where it is refused
abbrev pub list_after : List ℕ → ℕ → Result (List ℕ) → List ℕ
list_after list n (refusal number place) = list
list_after list n (done entries) = entries ++ drop n list

-- and the second list, whose first n places then hold zeros
abbrev pub spare_after : List ℕ → ℕ → Result (List ℕ) → List ℕ
spare_after spare n (refusal number place) = spare
spare_after spare n (done entries) = replicate n 0 ++ drop n spare
