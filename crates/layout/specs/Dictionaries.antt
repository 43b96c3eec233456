-- How the answers of dictionaries lie in lent numbers.
use Rattle.std.specs.Prelude.{ℕ, List, [], ◌∷◌, length}
use Rattle.token.specs.Result.{Result, refusal, done}
use Rattle.lines.specs.Lines.{line_of, line_start}
use Rattle.narrowing.specs.Narrowing.{Narrowed}
use Rattle.searching.specs.Searching.{Searched}
use Rattle.sorting.specs.Sorting.{Sorted}
use Rattle.fetching.specs.Fetching.{Entry, in_first, in_second}

abbrev pub searched_numbers : Searched → List ℕ
searched_numbers r = r.number ∷ r.place ∷ r.lines ∷ r.written ∷ []

abbrev pub narrowed_numbers : Narrowed → List ℕ
narrowed_numbers r = r.number ∷ r.place ∷ r.kept ∷ r.dropped ∷ []

abbrev pub sorted_numbers : Sorted → List ℕ
sorted_numbers r = r.number ∷ r.place ∷ []

-- line k of a dictionary: which it is, where the line starts, and its length
abbrev pub line_numbers : ℕ → List ℕ → ℕ → List ℕ
line_numbers which d k = 0 ∷ which ∷ line_start d k ∷ length (line_of d k) ∷ []

-- Fetching has no place: each of its refusals has place 0.
abbrev pub fetched_numbers : List ℕ → List ℕ → Result Entry → List ℕ
fetched_numbers first second (refusal number place) = number ∷ 0 ∷ 0 ∷ 0 ∷ []
fetched_numbers first second (done (in_first k)) = line_numbers 0 first k
fetched_numbers first second (done (in_second k)) = line_numbers 1 second k
