-- Demand 3 for runs of the form of narrowing that keeps the order (document 02, Q-12), on the list that a search filled, and on the one
-- that the sort has rearranged after it. `narrow_sorted` cites `narrowed_sorted`, and `sort` cites `sorted`, `sorted_as` and `list_after`.
use Rattle.std.specs.Prelude.{ℕ, ◌+◌, ◌≤◌, ◌<◌, ◌≡◌, true, ◌↔◌, length, take, drop}
use mathlib.Core.List.{List, ◌∷◌, map, Perm}
use Rattle.std.proofs.Math.Option.{Option, none, some}
use Rattle.format.specs.Format.{keep}
use Rattle.charset.specs.declared.Charset.{Charset}
use Rattle.token.specs.Refusal.{room_short}
use Rattle.token.specs.Result.{Result, refusal, output}
use Rattle.sign.specs.Transcription.{other_set}
use Rattle.query.specs.Reading.{Asked}
use Rattle.lines.specs.Lines.{lines, line_of}
use Rattle.narrowing.specs.Narrowing.{distinct, filled}
use Rattle.narrowing.specs.Run.{Ended, run, total, told}
use Rattle.arrangement.specs.Arranged.{arranged}
use Rattle.books.specs.Book.{book_of, rewritten}
use Rattle.books.specs.Sorting.{entry_before, list_after}
use Rattle.sorting.specs.Sorting.{sorted, sorted_as}
use Rattle.dictionary.specs.Search.{found, searched}
use Rattle.dictionary.specs.Narrowing.{narrowed_sorted}
use Rattle.runs.specs.Demand3.{Searches, written_by, is_accepted, meets_each, meeting, own_refusal}

-- the sort of what a search by `first` wrote, with a second list
abbrev pub sorted_from : Charset → List ℕ → List ℕ → Asked → List ℕ → Result (List ℕ)
sorted_from set dict list first spare = sorted set dict (output list (found set dict first)) (written_by set dict list first) spare

-- The start of a run: a search by `first`, and the sort after it where there is a second list. It is accepted with this list memory,
abbrev pub Starts : Charset → List ℕ → List ℕ → Asked → Option (List ℕ) → Type 0
Starts set dict list first none = Searches set dict list first
Starts set dict list first (some spare) = Searches set dict list first × ((sorted_as (sorted_from set dict list first spare)).number ≡ 0)

-- and leaves it so
abbrev pub start_list : Charset → List ℕ → List ℕ → Asked → Option (List ℕ) → List ℕ
start_list set dict list first none = output list (found set dict first)
start_list set dict list first (some spare) =
    list_after (output list (found set dict first)) (written_by set dict list first) (sorted_from set dict list first spare)

-- entries that rise, in the order of the start: as they are, or in dictionary order
abbrev pub standing : Charset → List ℕ → Option (List ℕ) → List ℕ → List ℕ
standing set dict none entries = entries
standing set dict (some spare) entries = arranged (entry_before (book_of (set, dict))) entries

-- the run: the first call takes the list memory that the start left and the number that the search wrote
abbrev pub sorted_run : Charset → List ℕ → List ℕ → Asked → Option (List ℕ) → List Asked → Ended
sorted_run set dict list first spare queries = run (narrowed_sorted set dict) queries (start_list set dict list first spare) (written_by set dict list first)

-- the entries that meet the search's query and all the accepted ones, in the order they stood
abbrev pub remaining : Charset → List ℕ → Asked → Option (List ℕ) → List Asked → List ℕ
remaining set dict first spare queries = standing set dict spare (meeting set dict (first ∷ queries))

pub record SortedRuns : Type 0 where
  -- after an accepted search the sort is accepted exactly if the second list has a place for each entry that was written
  pub sorts : (set : Charset) (dict list : List ℕ) (first : Asked) → Searches set dict list first → (spare : List ℕ)
      → ((sorted_as (sorted_from set dict list first spare)).number ≡ 0) ↔ (written_by set dict list first ≤ length spare)
  -- and otherwise refused as 6 with their number
  pub unsorted : (set : Charset) (dict list : List ℕ) (first : Asked) → Searches set dict list first → (spare : List ℕ)
      → length spare < written_by set dict list first → sorted_from set dict list first spare ≡ refusal room_short (written_by set dict list first)
  -- For every start that is accepted, and all queries in order: the entries left are those of the start that meet each accepted query, in
  -- its order
  pub stood : (set : Charset) (dict list : List ℕ) (first : Asked) (spare : Option (List ℕ)) → Starts set dict list first spare → (queries : List Asked)
      → remaining set dict first spare queries
      ≡ keep (λ e. meets_each set (keep is_accepted queries) (line_of dict e)) (take (written_by set dict list first) (start_list set dict list first spare))
  -- each in 1 to the line count, and none twice
  pub apart : (set : Charset) (dict list : List ℕ) (first : Asked) (spare : Option (List ℕ)) → Starts set dict list first spare → (queries : List Asked)
      → distinct (length (lines dict)) (remaining set dict first spare queries) ≡ true
  -- the list memory after the run: these, zeros to the number that the search wrote, then what was there before
  pub ending : (set : Charset) (dict list : List ℕ) (first : Asked) (spare : Option (List ℕ)) → Starts set dict list first spare → (queries : List Asked)
      → (sorted_run set dict list first spare queries).list
      ≡ filled (written_by set dict list first) (remaining set dict first spare queries) (drop (written_by set dict list first) list)
  -- their number is the count for a next call
  pub counting : (set : Charset) (dict list : List ℕ) (first : Asked) (spare : Option (List ℕ)) → Starts set dict list first spare → (queries : List Asked)
      → (sorted_run set dict list first spare queries).count ≡ length (remaining set dict first spare queries)
  -- the dropped counts and the entries left add up to the number that the search wrote
  pub adding : (set : Charset) (dict list : List ℕ) (first : Asked) (spare : Option (List ℕ)) → Starts set dict list first spare → (queries : List Asked)
      → total (sorted_run set dict list first spare queries).answers + length (remaining set dict first spare queries) ≡ written_by set dict list first
  -- each call answers the number and place of its query's own refusal, and nothing else is refused
  pub telling : (set : Charset) (dict list : List ℕ) (first : Asked) (spare : Option (List ℕ)) → Starts set dict list first spare → (queries : List Asked)
      → told queries (sorted_run set dict list first spare queries).answers ≡ map (λ query. (query, own_refusal query)) queries
  -- every reordering of the queries leaves the same list memory and the same total, and tells each query the same number and place
  pub reordering : (set : Charset) (dict list : List ℕ) (first : Asked) (spare : Option (List ℕ)) → Starts set dict list first spare
      → (queries reordered : List Asked) → Perm queries reordered
      → ((sorted_run set dict list first spare queries).list ≡ (sorted_run set dict list first spare reordered).list)
      × (total (sorted_run set dict list first spare queries).answers ≡ total (sorted_run set dict list first spare reordered).answers)
      × Perm (told queries (sorted_run set dict list first spare queries).answers) (told reordered (sorted_run set dict list first spare reordered).answers)
  -- with the rewritten dictionary the search and the sort come to the same and leave the same list memory, and the same queries in the
  -- same order give the same answer at every call and the same list memory
  pub rewriting : (set : Charset) (dict list : List ℕ) (first : Asked) (spare : Option (List ℕ)) → Starts set dict list first spare → (queries : List Asked)
      → (searched (other_set set) (rewritten set dict) list first ≡ searched set dict list first)
      × ((second : List ℕ) → sorted_from (other_set set) (rewritten set dict) list first second ≡ sorted_from set dict list first second)
      × (start_list (other_set set) (rewritten set dict) list first spare ≡ start_list set dict list first spare)
      × (sorted_run (other_set set) (rewritten set dict) list first spare queries ≡ sorted_run set dict list first spare queries)
