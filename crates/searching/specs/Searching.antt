-- Searching by a query that lies in lent words (document 02, Q-10).
use Rattle.std.specs.Prelude.{Result as Answer, Ok, Err, ℕ, List, Bool, length}
use Rattle.format.specs.Format.{keep}
use Rattle.charset.specs.declared.Charset.{Charset}
use Rattle.token.specs.Result.{Result, refusal, done, in_room, output}
use Rattle.lines.specs.Lines.{lines}
use Rattle.narrowing.specs.Narrowing.{up_to, check_lines}
use Rattle.entries.specs.Entries.{readable}
use Rattle.entries.specs.Judging.{meets_words}
use Rattle.books.specs.Book.{book_of}
use Rattle.books.specs.Fills.{found_in}
use Rattle.token.specs.declared.refusal.Refusal.{Refusal}
use Rattle.token.specs.Refusal.{number_of, place_of}
use Rattle.searching.specs.declared.Searched.{Searched as Counts}

-- What a call answers, as numbers: zeros but for number and place where it is refused.
pub record Searched : Type 0 where
  pub number : ℕ
  pub place : ℕ
  pub lines : ℕ
  pub written : ℕ

-- and by the function that makes it: both counts, or the refusal
abbrev pub as_searched : Answer Counts Refusal → Searched
as_searched (Ok counts) = record { number = 0; place = 0; lines = counts.lines; written = counts.written }
as_searched (Err e) = record { number = number_of e; place = place_of e; lines = 0; written = 0 }

abbrev pub not_searched : ℕ → ℕ → Searched
not_searched number place = record { number = number; place = place; lines = 0; written = 0 }

-- the answer over n lines: how many there are and how many entries are written, zeros where the call is refused
abbrev pub searched_as : ℕ → Result (List ℕ) → Searched
searched_as n (refusal number place) = not_searched number place
searched_as n (done entries) = record { number = 0; place = 0; lines = n; written = length entries }

-- and the list memory after it; a list too short for all the entries is refused as 6 with the room needed
unfoldable pub writing : ℕ → List ℕ → Result (List ℕ) → Searched × List ℕ
writing n list r = (searched_as n (in_room (length list) r), output list r)

-- of entries 1 to n those that pass a test, once every line is read
unfoldable pub found_of : Charset → List ℕ → ℕ → (ℕ → Bool) → Result (List ℕ)
found_of set dict n test = check_lines (readable set dict) (up_to n) (done (keep test (up_to n)))

unfoldable pub searched_words : Charset → List ℕ → List ℕ → List ℕ → Searched × List ℕ
searched_words set dict list words = writing (length (lines dict)) list (found_in (done (meets_words set dict words)) (book_of (set, dict)))
