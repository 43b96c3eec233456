-- Demand 3, as an instance of the claim about any form of call and anything that fills the list.
use Prim.Native.Nat.{ℕ}
use mathlib.Core.Path.{◌≡◌, refl, sym, ap, ◌∙◌}
use mathlib.Core.List.{List, [], ◌∷◌, map}
use mathlib.Core.Bool.{true, ◌&&◌}
use lib.ListN.{length}
use Rattle.format.specs.Format.{choose, every, keep}
use Rattle.format.proofs.Lists.{every_true}
use Rattle.charset.specs.declared.Charset.{Charset}
use Rattle.token.specs.Result.{Result, refusal, done, on_done, in_room, output}
use Rattle.querygrammar.specs.Query.{Query}
use Rattle.query.specs.Reading.{Asked, query_asked, reading_of}
use Rattle.query.proofs.Answers.{query_counted}
use Rattle.verdict.specs.Verdict.{verdict_in}
use Rattle.verdict.proofs.VerdictLaws.{verdict_laws}
use Rattle.lines.specs.Lines.{lines, line_of}
use Rattle.narrowing.specs.Narrowing.{rising}
use Rattle.narrowing.specs.Run.{refusal_of}
use Rattle.narrowing.specs.Form as Form
use Rattle.narrowing.proofs.Rising.{up_to_rising, rising_keep}
use Rattle.narrowing.proofs.Runs as Runs
use Rattle.entries.specs.Entries.{entries_of, is_done}
use Rattle.entries.specs.Judging.{meets}
use Rattle.books.specs.Book.{book_of, other_text}
use Rattle.books.specs.Forms.{asked, form_by}
use Rattle.books.specs.Fills.{found_in, met_in}
use Rattle.books.proofs.Forms.{form_laws}
use Rattle.books.proofs.Rewriting.{same_book, lines_alike}
use Rattle.searching.specs.Searching.{searched_as}
use Rattle.dictionary.specs.Search.{found, searched}
use Rattle.dictionary.specs.Narrowing.{test_of, narrowed}
use Rattle.dictionary.proofs.Searches.{meets_query, search_fill, search_fill_lem, searched_from}
use Rattle.runs.specs.Demand3.{Searches, written_by, is_accepted, meets_each, meeting, own_refusal, Demand3}

claim : (first : Asked) → Form.Demand3 book_of other_text (form_by rising query_asked meets_query) (search_fill first)
claim first =
    Runs.demand3 book_of other_text (form_by rising query_asked meets_query)
    (form_laws rising (λ count test k h. rising_keep test 0 count k h) query_asked meets_query (λ query. query_counted query.0 query.1))
    (search_fill first)
    (search_fill_lem first)

-- what the accepted queries ask of an entry is that its line meets each
pub asks_each : (set : Charset) (dict : List ℕ) (e : ℕ) (queries : List Asked)
    → every (λ query. Form.asks (test_of set dict query) e) queries ≡ meets_each set (keep is_accepted queries) (line_of dict e)
unfolding meets_each keep verdict_in
asks_each set dict e [] = refl
asks_each set dict e (query ∷ queries) = go (query_asked query) refl (asks_each set dict e queries)
  where
    go : (r : Result Query) → query_asked query ≡ r → every (λ query. Form.asks (test_of set dict query) e) queries ≡ meets_each set (keep is_accepted queries) (line_of dict e)
        → (Form.asks (on_done (meets set dict) r) e && every (λ query. Form.asks (test_of set dict query) e) queries)
        ≡ meets_each set (choose (is_done r) (query ∷ keep is_accepted queries) (keep is_accepted queries)) (line_of dict e)
    go (refusal number place) k h = h
    go (done q) k h = rw (k, h)

module _ (set : Charset) (dict : List ℕ) where
  left_meeting : (queries : List Asked) → Form.left (test_of set dict) (entries_of dict) queries ≡ meeting set dict queries
  unfolding Form.left meeting
  left_meeting queries = λ i. keep (λ e. asks_each set dict e queries i) (entries_of dict)

  meeting_rises : (queries : List Asked) → rising (length (lines dict)) (meeting set dict queries) ≡ true
  unfolding meeting
  meeting_rises queries = rising_keep (λ e. meets_each set (keep is_accepted queries) (line_of dict e)) 0 (length (lines dict)) (entries_of dict) (up_to_rising (length (lines dict)))

  pub refusal_own : (query : Asked) → refusal_of (test_of set dict query) ≡ own_refusal query
  unfolding refusal_of reading_of
  refusal_own query = go (query_asked query)
    where
      go : (r : Result Query) → refusal_of (on_done (meets set dict) r) ≡ ((reading_of r).number, (reading_of r).place)
      go (refusal number place) = refl
      go (done q) = refl

-- what a search by `first` left is a run by it, with all entries before it
module _ (set : Charset) (dict : List ℕ) (first : Asked) where
  pub left_first : (queries : List Asked) → Form.left (test_of set dict) (met_in (test_of set dict first) (book_of (set, dict))) queries ≡ meeting set dict (first ∷ queries)
  left_first queries = Runs.left_more (test_of set dict) first queries (entries_of dict) ∙ left_meeting set dict (first ∷ queries)

  pub written_is : (list : List ℕ) → Searches set dict list first → length (met_in (test_of set dict first) (book_of (set, dict))) ≡ written_by set dict list first
  unfolding searched
  written_is list s = sym (ap (λ r. (searched_as (length (lines dict)) r).written) (searched_from first set dict list s).1)

pub demand3 : Demand3
unfolding searched found narrowed
demand3 =
    record {
      meets = verdict_laws.exactly;
      ending = λ set dict list first s queries.
          (claim first).ending (book_of (set, dict)) list s queries (every_true queries)
          ∙ rw (written_is set dict first list s, left_first set dict first queries);
      rises = meeting_rises;
      counting = λ set dict list first s queries.
          (claim first).counting (book_of (set, dict)) list s queries (every_true queries) ∙ ap length (left_first set dict first queries);
      adding = λ set dict list first s queries.
          rw (← left_first set dict first queries) ((claim first).adding (book_of (set, dict)) list s queries (every_true queries) ∙ written_is set dict first list s);
      telling = λ set dict list first s queries.
          (claim first).telling (book_of (set, dict)) list s queries (every_true queries)
          ∙ (λ i. map {B = Asked × (ℕ × ℕ)} (λ query. (query, refusal_own set dict query i)) queries);
      reordering = λ set dict list first s queries reordered p. (claim first).reordering (book_of (set, dict)) list s queries reordered (every_true queries) p;
      rewritten_lines = λ set dict list first s e l h. lines_alike (set, dict) (searched_from first set dict list s).0 e l h;
      rewriting = λ set dict list first s queries.
          let same = same_book (set, dict) (searched_from first set dict list s).0 in (
            ap (λ b. searched_as b.count (in_room (length list) (found_in (asked query_asked meets_query b first) b))) same,
            ap (λ b. output list (found_in (asked query_asked meets_query b first) b)) same,
            ((claim first).rewriting (set, dict) list s queries).2,
          );
    }
