-- What the search program answers, as it is and in dictionary order.
use Prim.Native.Nat.{ℕ, suc, ◌≤◌}
use mathlib.Core.Path.{◌≡◌, refl, sym, ap, ◌∙◌}
use mathlib.Core.List.{List}
use mathlib.Core.Bool.{Bool, true, false, ◌&&◌}
use native.Mathlib.Omega.{arith}
use borrow.Author.Tests.{leb-true, leb-false}
use lib.Dec.{leb}
use lib.ListN.{length, take, length-take, length-drop}
use lib.Seq.{take_all}
use Rattle.format.specs.Format.{keep}
use Rattle.charset.specs.declared.Charset.TheVariants.{Fsw}
use Rattle.token.specs.Refusal.{too_many}
use Rattle.token.specs.Result.{Result, refusal, done, on_done}
use Rattle.querygrammar.specs.declared.Edition.TheVariants.{First}
use Rattle.querygrammar.specs.Query.{Query}
use Rattle.query.specs.Reading.{query_of}
use Rattle.lines.specs.Lines.{lines}
use Rattle.entries.specs.Entries.{entries_of}
use Rattle.entries.specs.Judging.{meets}
use Rattle.books.specs.Book.{book_of}
use Rattle.books.proofs.Fills.{checked_refused, sound_checked}
use Rattle.dictionary.specs.Search.{found}
use Rattle.dictionary.specs.SearchLaws.{opening}
use Rattle.dictionary.proofs.Searches.{opening_sound, query_first}
use Rattle.report.specs.Report.{query_in, dictionary_in, within, refusal_text, found_text, result_text, found_within}
use Rattle.report.specs.Report.{search_text, arranged_in, sorted_text, output_of, sorted_output_of}
use Rattle.report.specs.ProgramLaws.{ProgramLaws, SortedLaws}
use Rattle.report.proofs.Searching.{small, large}

-- ---- the text of what is found

module _ (query dict : List ℕ) where
  by_result : (x : Result (List ℕ)) → found_within query dict ≡ x → search_text query dict ≡ result_text (length (lines dict)) x
  unfolding search_text
  by_result x e = rw e

  sorted_by : (x : Result (List ℕ)) → found_within query dict ≡ x → sorted_text query dict ≡ result_text (length (lines dict)) (on_done (arranged_in dict) x)
  unfolding sorted_text
  sorted_by x e = rw e

  module _ (number place : ℕ) (e : found_within query dict ≡ refusal number place) where
    tells : search_text query dict ≡ refusal_text number place
    unfolding result_text
    tells = by_result (refusal number place) e

    sorted-tells : sorted_text query dict ≡ refusal_text number place
    unfolding result_text
    sorted-tells = sorted_by (refusal number place) e

  module _ (entries : List ℕ) (e : found_within query dict ≡ done entries) where
    lists : search_text query dict ≡ found_text (length (lines dict)) entries
    unfolding result_text
    lists = by_result (done entries) e

    sorted-lists : sorted_text query dict ≡ found_text (length (lines dict)) (arranged_in dict entries)
    unfolding result_text
    sorted-lists = sorted_by (done entries) e

-- ---- what is found

module _ (query dict : List ℕ) (w : within query dict ≡ true) where
  refuses : (number place : ℕ) → query_of First query ≡ refusal number place → found_within query dict ≡ refusal number place
  refuses number place e = small query dict w ∙ query_first Fsw dict (First, query) number place e

  module _ (q : Query) (e : query_of First query ≡ done q) where
    unopened : (number place : ℕ) → opening Fsw dict ≡ refusal number place → found_within query dict ≡ refusal number place
    unfolding found opening
    unopened number place o =
        small query dict w ∙ rw e (checked_refused (book_of (Fsw, dict)) (entries_of dict) number place o (done (keep (meets Fsw dict q) (entries_of dict))))

    finds : opening Fsw dict ≡ done (entries_of dict) → found_within query dict ≡ done (keep (meets Fsw dict q) (entries_of dict))
    unfolding found
    finds o = small query dict w ∙ rw e (sound_checked (book_of (Fsw, dict)) (opening_sound Fsw dict o) (done (keep (meets Fsw dict q) (entries_of dict))))

-- ---- how much of the input is enough

-- 50,178 bytes are over one of the sizes, whatever they are
over : (input : List ℕ) → 50178 ≤ length input → within (query_in input) (dictionary_in input) ≡ false
unfolding within
over input h = go (leb (length (query_in input)) 1024) (leb (length (dictionary_in input)) 49152) refl refl
  where
    go : (t u : Bool) → leb (length (query_in input)) 1024 ≡ t → leb (length (dictionary_in input)) 49152 ≡ u
        → (t && (u && leb (length (lines (dictionary_in input))) 1024)) ≡ false
    go false u x y = refl
    go true false x y = refl
    go true true x y =
        absurd
        (omega (arith, leb-true (length (query_in input)) 1024 x, leb-true (length (dictionary_in input)) 49152 y, length-drop (suc (length (query_in input))) input))

-- of any output that is the same text for all that is refused so
enough : (of : List ℕ → List ℕ) (text : List ℕ)
    → ((input : List ℕ) → found_within (query_in input) (dictionary_in input) ≡ refusal too_many 0 → of input ≡ text) → (input : List ℕ) → of (take 50178 input) ≡ of input
enough of text large_is input = go (leb (length input) 50178) refl
  where
    is : (x : List ℕ) → 50178 ≤ length x → of x ≡ text
    is x h = large_is x (large (query_in x) (dictionary_in x) (over x h))

    go : (t : Bool) → leb (length input) 50178 ≡ t → of (take 50178 input) ≡ of input
    go true e = ap of (take_all 50178 input (leb-true (length input) 50178 e))
    go false e =
        let long = leb-false (length input) 50178 e in
        is (take 50178 input) (omega (arith, length-take 50178 input, long)) ∙ sym (is input (omega (arith, long)))

pub program_laws : ProgramLaws
unfolding output_of
program_laws = record {
  refused = λ query dict number place w e. tells query dict number place (refuses query dict w number place e);
  unopened = λ query dict q number place w e o. tells query dict number place (unopened query dict w q e number place o);
  found = λ query dict q w e o. lists query dict (keep (meets Fsw dict q) (entries_of dict)) (finds query dict w q e o);
  enough = enough output_of (refusal_text too_many 0) (λ x. tells (query_in x) (dictionary_in x) too_many 0);
}

pub sorted_laws : SortedLaws
unfolding sorted_output_of
sorted_laws = record {
  refused = λ query dict number place e. sorted-tells query dict number place e ∙ sym (tells query dict number place e);
  found = λ query dict entries e. (lists query dict entries e, sorted-lists query dict entries e);
  sorted = λ query dict q w e o. sorted-lists query dict (keep (meets Fsw dict q) (entries_of dict)) (finds query dict w q e o);
  enough = enough sorted_output_of (refusal_text too_many 0) (λ x. sorted-tells (query_in x) (dictionary_in x) too_many 0);
}
