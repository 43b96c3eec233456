-- Demand 3 for runs that keep the order, as an instance of the claim about any form of call and anything that fills the list.
use Prim.Native.Nat.{ℕ, ◌+◌, ◌≤◌, ◌<◌}
use mathlib.Core.Path.{◌≡◌, refl, sym, ap, ◌∙◌}
use mathlib.Core.List.{List, map}
use mathlib.Core.Option.{Option, none, some}
use mathlib.Core.Bool.{Bool}
use mathlib.Core.Logic.{◌↔◌}
use lib.ListN.{length, take, drop}
use lib.Seq.{take-append_seam}
use Rattle.format.specs.Format.{every, keep}
use Rattle.format.proofs.Lists.{every_true}
use Rattle.charset.specs.declared.Charset.{Charset}
use Rattle.token.specs.Refusal.{room_short}
use Rattle.token.specs.Result.{refusal, in_room, output}
use Rattle.sign.specs.Transcription.{other_set}
use Rattle.query.specs.Reading.{Asked, query_asked}
use Rattle.query.proofs.Answers.{query_counted}
use Rattle.lines.specs.Lines.{line_of}
use Rattle.narrowing.specs.Narrowing.{distinct, filled, narrowed_by}
use Rattle.narrowing.specs.Run as Run
use Rattle.narrowing.specs.Run.{total, told}
use Rattle.narrowing.specs.Form as Form
use Rattle.narrowing.proofs.Distinct.{distinct_keep}
use Rattle.narrowing.proofs.Runs as Runs
use Rattle.arrangement.proofs.Merging.{arranged_length}
use Rattle.arrangement.proofs.Arranging.{arranged_keep}
use Rattle.books.specs.Book.{Book, book_of, other_text, rewritten, count_in, readable_in}
use Rattle.books.specs.Forms.{GoodBy, asked, form_by}
use Rattle.books.specs.Fills.{found_in, met_in, sorted_fill}
use Rattle.books.specs.Sorting.{entry_before, sorted_in, list_after}
use Rattle.books.proofs.Forms.{form_laws}
use Rattle.books.proofs.Rewriting.{same_book}
use Rattle.books.proofs.Sorting.{entry_order, was_sorted, distinct_fill, fill_sorted, fill_short, sorted_fill_lem}
use Rattle.searching.specs.Searching.{searched_as}
use Rattle.sorting.specs.Sorting.{sorted, sorted_as}
use Rattle.sorting.proofs.Laws.{accepted}
use Rattle.dictionary.specs.Search.{found, searched}
use Rattle.dictionary.specs.Narrowing.{test_of, narrowed_sorted}
use Rattle.dictionary.proofs.Searches.{meets_query, search_fill, search_fill_lem, searched_from}
use Rattle.runs.specs.Demand3.{Searches, written_by, is_accepted, meets_each}
use Rattle.runs.specs.SortedRuns.{sorted_from, Starts, start_list, standing, sorted_run, remaining, SortedRuns}
use Rattle.runs.proofs.Demand3.{asks_each, left_first, written_is, refusal_own}

-- the form, what fills the list, and the claim
abbrev form : Form.Form Book Asked
form = form_by distinct query_asked meets_query

fill : Asked → Option (List ℕ) → Form.Fill Book
fill first none = search_fill first
fill first (some spare) = sorted_fill (length spare) (search_fill first)

fill_laws : (first : Asked) (spare : Option (List ℕ)) → Form.FillLaws book_of other_text (GoodBy distinct) (fill first spare)
unfolding fill
fill_laws first none = distinct_fill (search_fill first) (search_fill_lem first)
fill_laws first (some spare) = sorted_fill_lem (length spare) (search_fill first) (distinct_fill (search_fill first) (search_fill_lem first))

claim : (first : Asked) (spare : Option (List ℕ)) → Form.Demand3 book_of other_text form (fill first spare)
claim first spare =
    Runs.demand3 book_of other_text form
    (form_laws distinct (λ count test k h. distinct_keep test count k h) query_asked meets_query (λ query. query_counted query.0 query.1))
    (fill first spare)
    (fill_laws first spare)

module _ (set : Charset) (dict list : List ℕ) (first : Asked) where
  abbrev b : Book
  b = book_of (set, dict)

  abbrev met : List ℕ
  met = met_in (test_of set dict first) b

  -- a start is one of these fills
  fills : (spare : Option (List ℕ)) → Starts set dict list first spare → (fill first spare).Fills b list
  unfolding fill searched found sorted
  fills none s = s
  fills (some spare) s =
      let a = accepted set dict (output list (found set dict first)) (written_by set dict list first) spare s.1 in
      (s.0, (was_sorted b (output list (found set dict first)) (written_by set dict list first) (length spare) a.0 a.1).space)

  -- whether the sort after a search is accepted
  module _ (s : Searches set dict list first) (spare : List ℕ) where
    sorts : ((sorted_as (sorted_from set dict list first spare)).number ≡ 0) ↔ (written_by set dict list first ≤ length spare)
    unfolding fill searched found sorted
    sorts = (
      λ z. (fills (some spare) (s, z)).1,
      λ h. ap (λ r. (sorted_as r).number) (fill_sorted (length spare) (search_fill first) (distinct_fill (search_fill first) (search_fill_lem first)) b list (s, h)),
    )

    unsorted : length spare < written_by set dict list first → sorted_from set dict list first spare ≡ refusal room_short (written_by set dict list first)
    unfolding searched found sorted
    unsorted h = fill_short (length spare) (search_fill first) (distinct_fill (search_fill first) (search_fill_lem first)) b list s h

  searches : (spare : Option (List ℕ)) → Starts set dict list first spare → Searches set dict list first
  searches none s = s
  searches (some spare) s = s.0

  memory_is : (spare : Option (List ℕ)) → (fill first spare).memory b list ≡ start_list set dict list first spare
  unfolding fill found searched sorted
  memory_is none = refl
  memory_is (some spare) = refl

  count_is : (spare : Option (List ℕ)) → (fill first spare).count b list ≡ written_by set dict list first
  unfolding fill found searched
  count_is none = refl
  count_is (some spare) = refl

  start_is : (spare : Option (List ℕ)) → (fill first spare).start b ≡ standing set dict spare met
  unfolding fill
  start_is none = refl
  start_is (some spare) = refl

  -- as long as what the search wrote
  standing_length : (spare : Option (List ℕ)) (k : List ℕ) → length (standing set dict spare k) ≡ length k
  standing_length none k = refl
  standing_length (some spare) k = arranged_length (entry_before b) k

  -- keeping does not change the order
  standing_keep : (spare : Option (List ℕ)) (test : ℕ → Bool) (k : List ℕ) → keep test (standing set dict spare k) ≡ standing set dict spare (keep test k)
  standing_keep none test k = refl
  standing_keep (some spare) test k = arranged_keep (entry_before b) (entry_order b) test k

  left_is : (spare : Option (List ℕ)) (queries : List Asked) → Form.left_of form (fill first spare) b queries ≡ remaining set dict first spare queries
  unfolding Form.left
  left_is spare queries =
      let test : ℕ → Bool = λ e. every (λ query. Form.asks (test_of set dict query) e) queries in
      ap (keep test) (start_is spare) ∙ standing_keep spare test met ∙ ap (standing set dict spare) (left_first set dict first queries)

  run_is : (spare : Option (List ℕ)) (queries : List Asked) → Form.run_on form (fill first spare) b list queries ≡ sorted_run set dict list first spare queries
  unfolding narrowed_sorted
  run_is spare queries = λ i. Run.run (narrowed_sorted set dict) queries (memory_is spare i) (count_is spare i)

  -- the number that the search wrote
  written : (spare : Option (List ℕ)) → Starts set dict list first spare → length ((fill first spare).start b) ≡ written_by set dict list first
  written spare s = ap length (start_is spare) ∙ standing_length spare met ∙ written_is set dict first list (searches spare s)

  stood : (spare : Option (List ℕ)) → Starts set dict list first spare → (queries : List Asked)
      → remaining set dict first spare queries
      ≡ keep (λ e. meets_each set (keep is_accepted queries) (line_of dict e)) (take (written_by set dict list first) (start_list set dict list first spare))
  unfolding Form.left
  stood spare s queries =
      let k = (fill first spare).start b in
      let memory = sym (memory_is spare) ∙ (fill_laws first spare).memory b list (fills spare s) in
      let front : take (written_by set dict list first) (start_list set dict list first spare) ≡ k
      = (λ i. take (sym (written spare s) i) (memory i)) ∙ take-append_seam k (drop (length k) list) in
      sym (left_is spare queries) ∙ (λ i. keep (λ e. asks_each set dict e queries i) (sym front i))

-- the rewritten dictionary reads as the same book
module _ (set : Charset) (dict list : List ℕ) (first : Asked) (s : Searches set dict list first) where
  same : book_of (other_text (set, dict)) ≡ book_of (set, dict)
  same = same_book (set, dict) (searched_from first set dict list s).0

  same_search : searched (other_set set) (rewritten set dict) list first ≡ searched set dict list first
  unfolding searched found
  same_search = ap (λ b. searched_as b.count (in_room (length list) (found_in (asked query_asked meets_query b first) b))) same

  same_found : output list (found (other_set set) (rewritten set dict) first) ≡ output list (found set dict first)
  unfolding found
  same_found = ap (λ b. output list (found_in (asked query_asked meets_query b first) b)) same

  same_sort : (spare : List ℕ) → sorted_from (other_set set) (rewritten set dict) list first spare ≡ sorted_from set dict list first spare
  unfolding sorted
  same_sort spare = λ i. sorted_in (same i) (same_found i) (same_search i).written (length spare)

  same_start : (spare : Option (List ℕ)) → start_list (other_set set) (rewritten set dict) list first spare ≡ start_list set dict list first spare
  same_start none = same_found
  same_start (some spare) = λ i. list_after (same_found i) (same_search i).written (same_sort spare i)

  same_run : (spare : Option (List ℕ)) (queries : List Asked) → sorted_run (other_set set) (rewritten set dict) list first spare queries ≡ sorted_run set dict list first spare queries
  unfolding narrowed_sorted
  same_run spare queries =
      λ i. Run.run (λ list n query. narrowed_by (asked query_asked meets_query (same i) query) (count_in (same i)) distinct (readable_in (same i)) list n) queries (same_start spare i) (same_search i).written

pub sorted_runs : SortedRuns
sorted_runs =
    record {
      sorts = sorts;
      unsorted = unsorted;
      stood = λ set dict list first spare s queries. stood set dict list first spare s queries;
      apart = λ set dict list first spare s queries.
          rw (← left_is set dict list first spare queries) ((claim first spare).good (book_of (set, dict)) list (fills set dict list first spare s) queries).passes;
      ending = λ set dict list first spare s queries.
          ap (λ r. r.list) (sym (run_is set dict list first spare queries))
          ∙ (claim first spare).ending (book_of (set, dict)) list (fills set dict list first spare s) queries (every_true queries)
          ∙ (λ i. filled (written set dict list first spare s i) (left_is set dict list first spare queries i) (drop (written set dict list first spare s i) list));
      counting = λ set dict list first spare s queries.
          ap (λ r. r.count) (sym (run_is set dict list first spare queries))
          ∙ (claim first spare).counting (book_of (set, dict)) list (fills set dict list first spare s) queries (every_true queries)
          ∙ ap length (left_is set dict list first spare queries);
      adding = λ set dict list first spare s queries.
          (λ i. total (sym (run_is set dict list first spare queries) i).answers + length (sym (left_is set dict list first spare queries) i))
          ∙ (claim first spare).adding (book_of (set, dict)) list (fills set dict list first spare s) queries (every_true queries)
          ∙ written set dict list first spare s;
      telling = λ set dict list first spare s queries.
          ap (λ r. told queries r.answers) (sym (run_is set dict list first spare queries))
          ∙ (claim first spare).telling (book_of (set, dict)) list (fills set dict list first spare s) queries (every_true queries)
          ∙ (λ i. map {B = Asked × (ℕ × ℕ)} (λ query. (query, refusal_own set dict query i)) queries);
      reordering = λ set dict list first spare s queries reordered p.
          rw (← run_is set dict list first spare queries, ← run_is set dict list first spare reordered)
          ((claim first spare).reordering (book_of (set, dict)) list (fills set dict list first spare s) queries reordered (every_true queries) p);
      rewriting = λ set dict list first spare s queries.
          let t = searches set dict list first spare s in
          (same_search set dict list first t, same_sort set dict list first t, same_start set dict list first t spare, same_run set dict list first t spare queries);
    }
