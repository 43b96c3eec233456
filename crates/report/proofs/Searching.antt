-- What a search comes to in each case, and what is told of it.
use Prim.Native.Nat.{ℕ, ◌≤◌, ◌<◌}
use mathlib.Core.Path.{◌≡◌, refl, sym, ap, ◌∙◌}
use mathlib.Core.List.{List, ◌++◌}
use mathlib.Core.Bool.{Bool, true, false, not, ◌&&◌, and-eq-true_iff}
use native.Mathlib.Omega.{arith}
use borrow.Author.Tests.{leb-true, le-ltb, le-leb, lt-leb, not-true, not-false}
use lib.Dec.{leb, lit<}
use lib.ListN.{length, take, drop, length-append, length-drop}
use lib.Seq.{take-append_seam}
use Rattle.std.proofs.lemmas.List.{take-append-drop}
use Rattle.charset.specs.declared.Charset.TheVariants.{Fsw}
use Rattle.token.specs.declared.refusal.Refusal.{Refusal}
use Rattle.token.specs.Refusal.{too_many, number_of, place_of}
use Rattle.token.proofs.Refusals.{counted}
use Rattle.token.specs.Result.{Result, refusal, done, on_done, in_room, left_as, output}
use Rattle.token.proofs.Checks.{Counted, check_done, check_counted, on_done_counted}
use Rattle.querygrammar.specs.declared.Edition.TheVariants.{First}
use Rattle.query.specs.Reading.{query_asked}
use Rattle.query.proofs.Answers.{query_counted}
use Rattle.lines.specs.Lines.{lines}
use Rattle.narrowing.specs.Narrowing.{distinct}
use Rattle.narrowing.specs.Form.{asks}
use Rattle.format.proofs.Keeping.{keep_length}
use Rattle.narrowing.proofs.Rising.{up_to_length}
use Rattle.narrowing.proofs.Distinct.{rising_distinct}
use Rattle.arrangement.proofs.Merging.{arranged_length}
use Rattle.entries.specs.Entries.{entries_of}
use Rattle.entries.specs.Judging.{meets}
use Rattle.books.specs.Book.{book_of}
use Rattle.books.specs.Forms.{GoodBy}
use Rattle.books.specs.Sorting.{entry_before, list_after, sorted_in}
use Rattle.books.proofs.Fills.{found_sound, sound_good, search_laws}
use Rattle.books.proofs.Sorting.{good_sorted}
use Rattle.sorting.specs.Sorting.{sorted}
use Rattle.searching.specs.Searching.{Searched, not_searched, searched_as}
use Rattle.dictionary.specs.Narrowing.{test_of}
use Rattle.dictionary.specs.Search.{found, searched}
use Rattle.report.specs.Report.{within, refusal_text, found_text, result_text, found_within, search_text, arranged_in, sorted_text}
use Rattle.report.specs.Inner.{Finds, Filled, told_in}

-- ---- the three sizes

module _ (query dict : List ℕ) where
  pub long_query : 1024 < length query → false ≡ within query dict
  unfolding within
  long_query h = rw (lt-leb _ _ h)

  module _ (h : length query ≤ 1024) where
    pub long_dictionary : 49152 < length dict → false ≡ within query dict
    unfolding within
    long_dictionary l = rw (le-leb _ _ h, lt-leb _ _ l)

    pub by_lines : length dict ≤ 49152 → (n : ℕ) → n ≡ length (lines dict) → leb n 1024 ≡ within query dict
    unfolding within
    by_lines l n e = rw (le-leb _ _ h, le-leb _ _ l, e)

  within_lines : within query dict ≡ true → length (lines dict) ≤ 1024
  unfolding within
  within_lines h =
      let a = (and-eq-true_iff (leb (length query) 1024) (leb (length dict) 49152 && leb (length (lines dict)) 1024)).0 h in
      leb-true _ _ ((and-eq-true_iff (leb (length dict) 49152) (leb (length (lines dict)) 1024)).0 a.1).1

-- ---- what is found

-- entries that a sort accepts, and few enough
record Found (dict entries : List ℕ) : Type 0 where
  few_lines : length (lines dict) ≤ 1024
  few_entries : length entries ≤ 1024
  good : GoodBy distinct (book_of (Fsw, dict)) entries

module _ (query dict : List ℕ) where
  pub small : within query dict ≡ true → found_within query dict ≡ found Fsw dict (First, query)
  unfolding found_within
  small h = rw h

  pub large : within query dict ≡ false → found_within query dict ≡ refusal too_many 0
  unfolding found_within
  large h = rw h

  was_found : (entries : List ℕ) → found_within query dict ≡ done entries → Found dict entries
  unfolding found_within found
  was_found entries e =
      let b = book_of (Fsw, dict) in
      let test = test_of Fsw dict (First, query) in
      let x = check_done (within query dict) too_many 0 (found Fsw dict (First, query)) e in
      let few = within_lines query dict x.0 in
      let y = found_sound b test entries x.1 in
      let rises = rw y.1 at (sound_good b y.0 (asks test)) in
      record {
        few_lines = few;
        few_entries = omega (arith, few, ap length y.1, keep_length (asks test) (entries_of dict), up_to_length (length (lines dict)));
        good = record { fine = rises.fine; passes = rising_distinct b.count entries rises.passes; reads = rises.reads };
      }

  -- no refusal has the number 0
  found_counted : Counted (found_within query dict)
  unfolding found_within found
  found_counted =
      let asked = on_done_counted (meets Fsw dict) (query_asked (First, query)) (query_counted First query) in
      check_counted (within query dict) too_many 0 (found Fsw dict (First, query)) (lit< tt)
      ((search_laws (λ b. test_of Fsw dict (First, query)) (λ b. asked)).counted (book_of (Fsw, dict)))

  -- a list of 1,024 places has room for what is found
  roomy : (list : List ℕ) → length list ≡ 1024 → in_room (length list) (found_within query dict) ≡ found_within query dict
  roomy list m = go (found_within query dict) refl
    where
      go : (x : Result (List ℕ)) → found_within query dict ≡ x → in_room (length list) x ≡ x
      go (refusal number place) e = refl
      go (done entries) e = rw (le-ltb (length list) (length entries) (omega (arith, (was_found entries e).few_entries)))

  few : (x : Result (List ℕ)) → found_within query dict ≡ x
      → ((searched_as (length (lines dict)) x).lines ≤ 1024) × ((searched_as (length (lines dict)) x).written ≤ 1024)
  few (refusal number place) e = (omega arith, omega arith)
  few (done entries) e = ((was_found entries e).few_lines, (was_found entries e).few_entries)

  finds : (list : List ℕ) (r : Searched) (after : List ℕ) → r ≡ searched_as (length (lines dict)) (found_within query dict)
      → after ≡ left_as list (found_within query dict) → Finds query dict list r after
  finds list r after e k =
      let n = few (found_within query dict) refl in
      record { answer = e; memory = k; few_lines = rw e n.0; few_written = rw e n.1 }

  module _ (t : Bool) (e : t ≡ within query dict) (list : List ℕ) (r : Searched) where
    pub too_large : not t ≡ true → r ≡ not_searched 14 0 → Finds query dict list r list
    too_large h k = let l = large (sym e ∙ not-true t h) in finds list r list (k ∙ rw l) (rw l)

    pub searches : not t ≡ false → length list ≡ 1024 → r ≡ searched Fsw dict list (First, query)
        → (after : List ℕ) → after ≡ output list (found Fsw dict (First, query)) → Finds query dict list r after
    unfolding searched output
    searches h m k after j =
        let room = ap (in_room (length list)) (sym (small (sym e ∙ not-false t h))) ∙ roomy list m in
        finds list r after (k ∙ ap (searched_as (length (lines dict))) room) (j ∙ ap (left_as list) room)

-- ---- what is told

-- what an accepted search leaves
pub record Leaves (query dict after : List ℕ) (lines_told written : ℕ) : Type 0 where
  pub entries : List ℕ
  pub found : found_within query dict ≡ done entries
  pub lines : lines_told ≡ length (lines dict)
  pub many : written ≡ length entries
  pub filled : Filled dict after entries

module _ {query dict list after : List ℕ} where
  pub accepted : (lines_told written : ℕ) → length list ≡ 1024 → Finds query dict list (record { number = 0; place = 0; lines = lines_told; written = written }) after
      → Leaves query dict after lines_told written
  accepted l w m f = go (found_within query dict) refl f.answer f.memory
    where
      go : (x : Result (List ℕ)) → found_within query dict ≡ x → record { number = 0; place = 0; lines = l; written = w } ≡ searched_as (length (lines dict)) x
          → after ≡ left_as list x → Leaves query dict after l w
      go (refusal number place) e p k = absurd (omega (arith, found_counted query dict number place e, ap (λ r. r.number) p))
      go (done entries) e p k =
          let few = (was_found query dict entries e).few_entries in
          record {
            entries = entries;
            found = e;
            lines = ap (λ r. r.lines) p;
            many = ap (λ r. r.written) p;
            filled = record {
              query = query;
              found = e;
              long = ap length k ∙ omega (arith, length-append entries (drop (length entries) list), length-drop (length entries) list);
              front = ap (take (length entries)) k ∙ take-append_seam entries (drop (length entries) list);
            };
          }

module _ {query dict after : List ℕ} where
  pub tells_found : (order : List ℕ → List ℕ → List ℕ) {l w : ℕ} (r : Leaves query dict after l w) (last : List ℕ)
      → take (length r.entries) last ≡ order dict r.entries → found_text l (take w last) ≡ told_in order query dict
  unfolding result_text
  tells_found order r last e = rw (r.found, r.lines, r.many, e)

module _ {query dict list after : List ℕ} where
  pub tells_refusal : (order : List ℕ → List ℕ → List ℕ) (e : Refusal)
      → Finds query dict list (record { number = number_of e; place = place_of e; lines = 0; written = 0 }) after
      → refusal_text (number_of e) (place_of e) ≡ told_in order query dict
  unfolding result_text
  tells_refusal order e f = go (found_within query dict) f.answer
    where
      go : (x : Result (List ℕ)) → record { number = number_of e; place = place_of e; lines = 0; written = 0 } ≡ searched_as (length (lines dict)) x
          → refusal_text (number_of e) (place_of e) ≡ result_text (length (lines dict)) (on_done (order dict) x)
      go (refusal number place) p = λ i. refusal_text (p i).number (p i).place
      go (done entries) p = absurd (counted e (ap (λ r. r.number) p))

-- what is found, as it is and in dictionary order
pub as_found : (query dict : List ℕ) → told_in (λ dict entries. entries) query dict ≡ search_text query dict
unfolding search_text
as_found query dict = go (found_within query dict)
  where
    go : (x : Result (List ℕ)) → result_text (length (lines dict)) (on_done (λ k. k) x) ≡ result_text (length (lines dict)) x
    go (refusal number place) = refl
    go (done entries) = refl

pub as_sorted : (query dict : List ℕ) → told_in arranged_in query dict ≡ sorted_text query dict
unfolding sorted_text
as_sorted query dict = refl

pub sorts : (dict list spare after : List ℕ) (n : ℕ) → length spare ≡ 1024 → after ≡ list_after list n (sorted Fsw dict list n spare)
    → (entries : List ℕ) → n ≡ length entries → Filled dict list entries → take (length entries) after ≡ arranged_in dict entries
unfolding sorted
sorts dict list spare after n m s entries e f =
    let b = book_of (Fsw, dict) in
    let w = was_found f.query dict entries f.found in
    let tail = drop (length entries) list in
    let whole : list ≡ entries ++ tail = sym (take-append-drop (length entries) list) ∙ ap (λ k. k ++ tail) f.front in
    let sorts : sorted_in b list (length entries) (length spare) ≡ done (arranged_in dict entries) =
    ap (λ l. sorted_in b l (length entries) (length spare)) whole ∙ good_sorted b entries tail w.good (length spare) (omega (arith, w.few_entries)) in
    let is : after ≡ arranged_in dict entries ++ tail = s ∙ ap (λ n. list_after list n (sorted_in b list n (length spare))) e ∙ ap (list_after list (length entries)) sorts in
    ap (λ m. take m after) (sym (arranged_length (entry_before b) entries)) ∙ rw is (take-append_seam (arranged_in dict entries) tail)
