-- What searching with a query as text comes to, and the laws of searching.
use Prim.Native.Nat.{ℕ}
use mathlib.Core.Path.{◌≡◌, refl, sym, ap, ◌∙◌}
use mathlib.Core.List.{List, [], ◌++◌}
use mathlib.Core.Bool.{Bool, true, true≢false}
use lib.ListN.{length}
use Rattle.charset.specs.Bytes.{ascii, digit_of, marker_of, scalar_of}
use Rattle.charset.specs.declared.Charset.{Charset}
use Rattle.charset.specs.declared.Charset.TheVariants.{Fsw, Swu}
use Rattle.grammar.specs.Sign.{Meaning}
use Rattle.token.specs.Result.{Result, refusal, done, on_done, in_room, output}
use Rattle.token.proofs.Checks.{on_done_counted}
use Rattle.reader.specs.Signs.{sign_of}
use Rattle.querygrammar.specs.declared.Edition.{Edition}
use Rattle.querygrammar.specs.declared.Edition.TheVariants.{First, Second}
use Rattle.querygrammar.specs.Query.{Query, free}
use Rattle.std.specs.Prelude.{Result as Answer, Ok, Err, ⊤}
use Rattle.token.specs.declared.refusal.Refusal.{Refusal}
use Rattle.token.specs.Refusal.{number_of, place_of}
use Rattle.query.specs.Inner.{ReadInto}
use Rattle.query.specs.Reading.{Asked, query_of, query_asked}
use Rattle.query.proofs.Answers.{query_counted}
use Rattle.queryitem.specs.Words.{word_count}
use Rattle.matching.specs.Meets.{prefix_holds, judged, witnesses_of, verdict_of}
use Rattle.verdict.specs.Verdict.{verdict_on}
use Rattle.lines.specs.Lines.{lines as lines_of, line_of}
use Rattle.narrowing.specs.Narrowing.{rising, narrowing}
use Rattle.narrowing.specs.Form.{asks, Fill, FillLaws}
use Rattle.format.proofs.Keeping.{keep_every}
use Rattle.entries.specs.Entries.{is_done, entries_of}
use Rattle.entries.specs.Judging.{meets}
use Rattle.books.specs.Book.{Book, book_of, other_text, Sound}
use Rattle.books.specs.Forms.{GoodBy, asked}
use Rattle.books.specs.Fills.{fill_by, found_in, met_in}
use Rattle.books.proofs.Forms.{plain_step}
use Rattle.books.proofs.Fills.{AnswerLaws, EntriesLaws, fills_from, fill_laws, search_laws, found_sound, found_refused, sound_found, found_all, sound_good, checked_sound}
use Rattle.searching.specs.Searching.{Searched, not_searched, searched_as, writing, searched_words}
use Rattle.dictionary.specs.Narrowing.{test_of, narrowed}
use Rattle.dictionary.specs.Search.{found, searched}
use Rattle.dictionary.specs.SearchLaws.{opening, SearchLaws}
use Rattle.dictionary.proofs.Asked.{asked_refused, asked_done}

-- WITH A QUERY AS TEXT
module _ {e : Edition} {s : List ℕ} {q : Answer ⊤ Refusal} {words : List ℕ} (v : ReadInto e s word_count q words) (set : Charset) (dict list : List ℕ) where
  -- what the call answers, and the list memory after it
  abbrev Answers : Searched → List ℕ → Type 0
  Answers r after = record { answer : r ≡ searched set dict list (e, s); memory : after ≡ output list (found set dict (e, s)) }

  pub with_refused : {d : Refusal} → q ≡ Err d → Answers (not_searched (number_of d) (place_of d)) list
  unfolding searched found output
  with_refused was = let t = asked_refused v set dict was in record { answer = rw t; memory = rw t }

  pub with_done : {u : ⊤} → q ≡ Ok u → (r : Searched) (after : List ℕ) → (r, after) ≡ searched_words set dict list words → Answers r after
  unfolding searched found searched_words writing
  with_done was r after j =
      let t = sym (asked_done v set dict was) in
      let b = book_of (set, dict) in
      record {
        answer = ap (λ p. p.0) j ∙ ap (λ q. searched_as (length (lines_of dict)) (in_room (length list) (found_in q b))) t;
        memory = ap (λ p. p.1) j ∙ ap (λ q. output list (found_in q b)) t;
      }

-- THE LAWS
-- `Q` asks nothing, in every edition
abbrev nothing : Query
nothing = record { prefix = free; items = []; variance = 20 }

nothing_asked : (e : Edition) → query_of e (ascii "Q") ≡ done nothing
unfolding query_of digit_of marker_of scalar_of
nothing_asked First = refl
nothing_asked (Second Fsw) = refl
nothing_asked (Second Swu) = refl

nothing_meets : (r : Result Meaning) → is_done r ≡ true → (verdict_on nothing r).met ≡ true
unfolding verdict_on verdict_of prefix_holds judged witnesses_of
nothing_meets (refusal number place) k = absurd (true≢false (sym k))
nothing_meets (done m) k = refl

module _ (set : Charset) (dict : List ℕ) where
  pub opening_sound : opening set dict ≡ done (entries_of dict) → Sound (book_of (set, dict))
  unfolding opening
  opening_sound e = (checked_sound (book_of (set, dict)) (entries_of dict) (entries_of dict) e).0

  whole : (e : Edition) → found set dict (e, ascii "Q") ≡ opening set dict
  unfolding found opening
  whole e =
      ap (λ r. found_in (on_done (meets set dict) r) (book_of (set, dict))) (nothing_asked e)
      ∙ found_all (book_of (set, dict)) (meets set dict nothing) (λ i h. nothing_meets (sign_of set (line_of dict i)) h)

  module _ (query : Asked) where
    pub query_first : (number place : ℕ) → query_asked query ≡ refusal number place → found set dict query ≡ refusal number place
    unfolding found
    query_first number place e =
        let b = book_of (set, dict) in
        ap (λ r. found_in (on_done (meets set dict) r) b) e ∙ found_refused b number place

    narrows : (rest : List ℕ) → opening set dict ≡ done (entries_of dict)
        → narrowed set dict (entries_of dict ++ rest) (length (entries_of dict)) query ≡ narrowing (entries_of dict ++ rest) (length (entries_of dict)) (found set dict query)
    unfolding narrowed found
    narrows rest e =
        let b = book_of (set, dict) in
        let s = opening_sound e in
        let good = rw (keep_every (entries_of dict)) at (sound_good b s (λ e. true)) in
        plain_step rising b (entries_of dict) rest good (test_of set dict query)
        ∙ ap (narrowing (entries_of dict ++ rest) (length (entries_of dict))) (sym (sound_found b s (test_of set dict query)))

    rises : (entries : List ℕ) → found set dict query ≡ done entries → rising (length (lines_of dict)) entries ≡ true
    unfolding found
    rises entries e =
        let w = found_sound (book_of (set, dict)) (test_of set dict query) entries e in
        rw (← w.1) (sound_good (book_of (set, dict)) w.0 (asks (test_of set dict query))).passes

pub searching_laws : SearchLaws
searching_laws = record { query_first = query_first; whole = whole; narrows = λ set dict rest query e. narrows set dict query rest e; rises = rises }

-- SEARCHING FILLS THE LIST, as far as the claim about runs asks
abbrev pub meets_query : Query → Result Meaning → Bool
meets_query q sign = (verdict_on q sign).met

module _ (first : Asked) where
  abbrev says : Book → Result (ℕ → Bool)
  says b = asked query_asked meets_query b first

  abbrev pub search_fill : Fill Book
  search_fill = fill_by (λ b r. (searched_as b.count r).number) (λ b r. (searched_as b.count r).written) (λ b. found_in (says b) b) (λ b. met_in (says b) b)

  answer_laws : AnswerLaws (λ b r. (searched_as b.count r).number) (λ b r. (searched_as b.count r).written)
  answer_laws = record { refused = λ b n p. refl; counted = λ b k. refl }

  entries_laws : EntriesLaws (GoodBy rising) (λ b. found_in (says b) b) (λ b. met_in (says b) b)
  entries_laws = search_laws says (λ b. on_done_counted (λ q e. meets_query q (b.sign e)) (query_asked first) (query_counted first.0 first.1))

  pub search_fill_lem : FillLaws book_of other_text (GoodBy rising) search_fill
  search_fill_lem =
      fill_laws (λ b r. (searched_as b.count r).number) (λ b r. (searched_as b.count r).written) answer_laws (λ b. found_in (says b) b) (λ b. met_in (says b) b) entries_laws

  -- where it is accepted no line is bad, and the list has room for the entries that meet the query
  pub searched_from : (set : Charset) (dict list : List ℕ) → (searched set dict list first).number ≡ 0
      → Sound (book_of (set, dict)) × (in_room (length list) (found set dict first) ≡ done (met_in (test_of set dict first) (book_of (set, dict))))
  unfolding searched found
  searched_from set dict list e =
      fills_from (λ b r. (searched_as b.count r).number) (λ b r. (searched_as b.count r).written) answer_laws (λ b. found_in (says b) b) (λ b. met_in (says b) b) entries_laws (book_of (set, dict)) list e
