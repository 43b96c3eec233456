-- Searching (document 02, Q-10).
use Rattle.std.specs.Prelude.{ℕ, List, length}
use Rattle.charset.specs.declared.Charset.{Charset}
use Rattle.token.specs.Result.{Result, in_room}
use Rattle.query.specs.Reading.{Asked}
use Rattle.lines.specs.Lines.{lines}
use Rattle.books.specs.Book.{book_of}
use Rattle.books.specs.Fills.{found_in}
use Rattle.searching.specs.Searching.{Searched, searched_as}
use Rattle.dictionary.specs.Narrowing.{test_of}

-- what is written into the list, the entries that meet the query; refused as the query is, then as 12, 14, then 13
unfoldable pub found : Charset → List ℕ → Asked → Result (List ℕ)
found set dict query = found_in (test_of set dict query) (book_of (set, dict))

-- what is answered: how many lines there are and how many entries are written; a list too short for all of them is refused as 6 with
-- the room needed
unfoldable pub searched : Charset → List ℕ → List ℕ → Asked → Searched
searched set dict list query = searched_as (length (lines dict)) (in_room (length list) (found set dict query))
