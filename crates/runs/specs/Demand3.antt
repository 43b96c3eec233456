-- Demand 3 (document 01, "The dictionary and its list"; document 02, Q-10): one claim about every run of narrowing calls on the list
-- that a search filled. It is about the definitions that the contracts cite: `search` cites `searched`, `found` and `output`,
-- `narrow` cites `narrowed`, `query::read` cites `query_of` and `reading_of`, and `verdict::verdict` cites `verdict_in`.
use Rattle.std.specs.Prelude.{ℕ, ◌+◌, ◌≤◌, ◌≡◌, Bool, true, ◌&&◌, ◌↔◌, length, drop}
use mathlib.Core.List.{List, [], ◌∷◌, map, Perm}
use Rattle.format.specs.Format.{keep}
use Rattle.charset.specs.declared.Charset.{Charset}
use Rattle.grammar.specs.Sign.{Meaning}
use Rattle.token.specs.Result.{output}
use Rattle.sign.specs.OffsetLaws.{ReadAlike}
use Rattle.sign.specs.Transcription.{other_set}
use Rattle.query.specs.Reading.{Asked, query_asked, reading_of}
use Rattle.querygrammar.specs.Query.{Query}
use Rattle.matching.specs.Meets.{Meets}
use Rattle.verdict.specs.Verdict.{verdict_in, Reads}
use Rattle.lines.specs.Lines.{lines, line_of}
use Rattle.narrowing.specs.Narrowing.{rising, filled}
use Rattle.narrowing.specs.Run.{Ended, run, total, told}
use Rattle.entries.specs.Entries.{is_done, entries_of}
use Rattle.books.specs.Book.{rewritten}
use Rattle.dictionary.specs.Search.{found, searched}
use Rattle.dictionary.specs.Narrowing.{narrowed}

-- a search of the dictionary is accepted with this list memory, and writes so many entries into it
abbrev pub Searches : Charset → List ℕ → List ℕ → Asked → Type 0
Searches set dict list first = (searched set dict list first).number ≡ 0

abbrev pub written_by : Charset → List ℕ → List ℕ → Asked → ℕ
written_by set dict list first = (searched set dict list first).written

-- A query of a run is its bytes with its edition and set, and keeps them when reordered (document 02, Q-9).
-- The run: the first call takes the list memory that the search by `first` left and the number that it wrote.
abbrev pub run_on : Charset → List ℕ → List ℕ → Asked → List Asked → Ended
run_on set dict list first queries = run (narrowed set dict) queries (output list (found set dict first)) (written_by set dict list first)

-- a query whose text gives none of the query refusals
abbrev pub is_accepted : Asked → Bool
is_accepted query = is_done (query_asked query)

-- a text meets each of the queries
unfoldable pub meets_each : Charset → List Asked → List ℕ → Bool
meets_each set [] text = true
meets_each set (query ∷ queries) text = (verdict_in set query text).met && meets_each set queries text

-- the entries that meet all the accepted queries, from the dictionary and the queries alone
unfoldable pub meeting : Charset → List ℕ → List Asked → List ℕ
meeting set dict queries = keep (λ e. meets_each set (keep is_accepted queries) (line_of dict e)) (entries_of dict)

-- the number and place with which the query itself is refused, zeros where it is accepted
abbrev pub own_refusal : Asked → ℕ × ℕ
own_refusal query = ((reading_of (query_asked query)).number, (reading_of (query_asked query)).place)

-- For every dictionary and list memory with which a search is accepted, and all queries in order:
pub record Demand3 : Type 0 where
  -- a text meets a query exactly when it reads as a sign for which all the query's conditions hold
  pub meets : (set : Charset) (query : Asked) (text : List ℕ)
      → ((verdict_in set query text).met ≡ true) ↔ ((q : Query) × ((m : Meaning) × (Reads set query text q m × Meets q m)))
  -- the list memory after the run: the entries that meet the search's query and all the accepted ones, zeros to the number that the
  -- search wrote, then what was there before
  pub ending : (set : Charset) (dict list : List ℕ) (first : Asked) → Searches set dict list first → (queries : List Asked)
      → (run_on set dict list first queries).list
      ≡ filled (written_by set dict list first) (meeting set dict (first ∷ queries)) (drop (written_by set dict list first) list)
  -- those entries rise in 1 to the line count
  pub rises : (set : Charset) (dict : List ℕ) (queries : List Asked) → rising (length (lines dict)) (meeting set dict queries) ≡ true
  -- their number is the count for a next call
  pub counting : (set : Charset) (dict list : List ℕ) (first : Asked) → Searches set dict list first → (queries : List Asked)
      → (run_on set dict list first queries).count ≡ length (meeting set dict (first ∷ queries))
  -- the dropped counts and the entries left add up to the number that the search wrote
  pub adding : (set : Charset) (dict list : List ℕ) (first : Asked) → Searches set dict list first → (queries : List Asked)
      → total (run_on set dict list first queries).answers + length (meeting set dict (first ∷ queries)) ≡ written_by set dict list first
  -- each call answers the number and place of its query's own refusal, and nothing else is refused
  pub telling : (set : Charset) (dict list : List ℕ) (first : Asked) → Searches set dict list first → (queries : List Asked)
      → told queries (run_on set dict list first queries).answers ≡ map (λ query. (query, own_refusal query)) queries
  -- every reordering of the queries after the search leaves the same list memory and the same total, and tells each query the same
  -- number and place
  pub reordering : (set : Charset) (dict list : List ℕ) (first : Asked) → Searches set dict list first → (queries reordered : List Asked) → Perm queries reordered
      → ((run_on set dict list first queries).list ≡ (run_on set dict list first reordered).list)
      × (total (run_on set dict list first queries).answers ≡ total (run_on set dict list first reordered).answers)
      × Perm (told queries (run_on set dict list first queries).answers) (told reordered (run_on set dict list first reordered).answers)
  -- each line of the rewritten dictionary reads as a sign equal in all but offsets to that of the line it was
  pub rewritten_lines : (set : Charset) (dict list : List ℕ) (first : Asked) → Searches set dict list first → (e : ℕ) → 1 ≤ e → e ≤ length (lines dict)
      → ReadAlike (other_set set) (line_of (rewritten set dict) e) set (line_of dict e)
  -- the search of the rewritten dictionary is answered alike and leaves the same list memory, and the same queries in the same order
  -- give the same answer at every call and the same list memory
  pub rewriting : (set : Charset) (dict list : List ℕ) (first : Asked) → Searches set dict list first → (queries : List Asked)
      → (searched (other_set set) (rewritten set dict) list first ≡ searched set dict list first)
      × (output list (found (other_set set) (rewritten set dict) first) ≡ output list (found set dict first))
      × (run_on (other_set set) (rewritten set dict) list first queries ≡ run_on set dict list first queries)
