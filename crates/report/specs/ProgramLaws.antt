-- What the search program answers, from the query and the lines alone; and how much of its input it takes to answer.
use Rattle.std.specs.Prelude.{ℕ, ◌≡◌, List, true, length, take}
use Rattle.format.specs.Format.{keep}
use Rattle.charset.specs.declared.Charset.TheVariants.{Fsw}
use Rattle.token.specs.Result.{refusal, done}
use Rattle.querygrammar.specs.declared.Edition.TheVariants.{First}
use Rattle.querygrammar.specs.Query.{Query}
use Rattle.query.specs.Reading.{query_of}
use Rattle.lines.specs.Lines.{lines}
use Rattle.entries.specs.Entries.{entries_of}
use Rattle.entries.specs.Judging.{meets}
use Rattle.dictionary.specs.SearchLaws.{opening}
use Rattle.report.specs.Report.{within, refusal_text, found_text, found_within, search_text, arranged_in, sorted_text, output_of, sorted_output_of}

pub record ProgramLaws : Type 0 where
  -- a query that is refused gives its own refusal, whatever the dictionary
  pub refused : (query dict : List ℕ) (number place : ℕ) → within query dict ≡ true → query_of First query ≡ refusal number place
      → search_text query dict ≡ refusal_text number place
  -- after that a dictionary that does not open gives its refusal
  pub unopened : (query dict : List ℕ) (q : Query) (number place : ℕ) → within query dict ≡ true → query_of First query ≡ done q → opening Fsw dict ≡ refusal number place
      → search_text query dict ≡ refusal_text number place
  -- there is no other refusal: the entries whose signs meet the query are found
  pub found : (query dict : List ℕ) (q : Query) → within query dict ≡ true → query_of First query ≡ done q → opening Fsw dict ≡ done (entries_of dict)
      → search_text query dict ≡ found_text (length (lines dict)) (keep (meets Fsw dict q) (entries_of dict))
  -- the first 50,178 bytes of any input are answered as all of it: one more than the largest that is within the sizes
  pub enough : (input : List ℕ) → output_of (take 50178 input) ≡ output_of input

-- the same in dictionary order (document 02, Q-12)
pub record SortedLaws : Type 0 where
  -- it is refused as the search program is, in the same words
  pub refused : (query dict : List ℕ) (number place : ℕ) → found_within query dict ≡ refusal number place → sorted_text query dict ≡ search_text query dict
  -- and finds the same entries, in order
  pub found : (query dict entries : List ℕ) → found_within query dict ≡ done entries
      → (search_text query dict ≡ found_text (length (lines dict)) entries)
      × (sorted_text query dict ≡ found_text (length (lines dict)) (arranged_in dict entries))
  -- those whose signs meet the query
  pub sorted : (query dict : List ℕ) (q : Query) → within query dict ≡ true → query_of First query ≡ done q → opening Fsw dict ≡ done (entries_of dict)
      → sorted_text query dict ≡ found_text (length (lines dict)) (arranged_in dict (keep (meets Fsw dict q) (entries_of dict)))
  pub enough : (input : List ℕ) → sorted_output_of (take 50178 input) ≡ sorted_output_of input
