-- The search program's whole output, from its whole input (document 01, "The search program"; document 02, Q-10).
use Rattle.std.specs.Prelude.{ℕ, suc, ◌≤◌, ◌≡◌, List, ◌++◌, Bool, ◌&&◌, leb, length, take, drop}
use Rattle.charset.specs.Bytes.{ascii}
use Rattle.charset.specs.declared.Charset.TheVariants.{Fsw}
use Rattle.token.specs.Refusal.{too_many}
use Rattle.token.specs.Result.{Result, refusal, done, on_done, check}
use Rattle.querygrammar.specs.declared.Edition.TheVariants.{First}
use Rattle.lines.specs.Lines.{lines, first_line}
use Rattle.arrangement.specs.Arranged.{arranged}
use Rattle.books.specs.Book.{book_of}
use Rattle.books.specs.Sorting.{entry_before}
use Rattle.dictionary.specs.Search.{found}
use Rattle.keylines.specs.Text.{key_line, entry_lines}

-- the input's query: the bytes before the first byte 10, or all if there is none
abbrev pub query_in : List ℕ → List ℕ
query_in input = first_line input

-- and its dictionary: all after that byte 10
abbrev pub dictionary_in : List ℕ → List ℕ
dictionary_in input = drop (suc (length (first_line input))) input

-- a query of at most 1,024 bytes, and a dictionary of at most 49,152 bytes and 1,024 lines
unfoldable pub within : List ℕ → List ℕ → Bool
within query dict = leb (length query) 1024 && (leb (length dict) 49152 && leb (length (lines dict)) 1024)

unfoldable pub refusal_text : ℕ → ℕ → List ℕ
refusal_text number place = key_line (ascii "answer=") number ++ key_line (ascii "place=") place

-- the line count, and the entries that were found
unfoldable pub found_text : ℕ → List ℕ → List ℕ
found_text n kept = key_line (ascii "answer=") 0 ++ key_line (ascii "entries=") n ++ key_line (ascii "kept=") (length kept) ++ entry_lines kept

-- what a search of n lines came to
unfoldable pub result_text : ℕ → Result (List ℕ) → List ℕ
result_text n (refusal number place) = refusal_text number place
result_text n (done entries) = found_text n entries

-- 14 before all else, then what a search by a query of the first edition comes to: the query's refusals before the dictionary's
unfoldable pub found_within : List ℕ → List ℕ → Result (List ℕ)
found_within query dict = check (within query dict) too_many 0 (found Fsw dict (First, query))

-- and what is told of it
unfoldable pub search_text : List ℕ → List ℕ → List ℕ
search_text query dict = result_text (length (lines dict)) (found_within query dict)

-- entries in dictionary order
abbrev pub arranged_in : List ℕ → List ℕ → List ℕ
arranged_in dict entries = arranged (entry_before (book_of (Fsw, dict))) entries

-- what is told with the entries in that order (document 02, Q-12)
unfoldable pub sorted_text : List ℕ → List ℕ → List ℕ
sorted_text query dict = result_text (length (lines dict)) (on_done (arranged_in dict) (found_within query dict))

-- the whole output
unfoldable pub output_of : List ℕ → List ℕ
output_of input = search_text (query_in input) (dictionary_in input)

unfoldable pub sorted_output_of : List ℕ → List ℕ
sorted_output_of input = sorted_text (query_in input) (dictionary_in input)

-- n counts bytes at the start of a memory. The second fact follows from the first; callers that lend the part ask for both.
abbrev pub Part : ℕ → List ℕ → Type 0
Part n memory = (n ≤ length memory) × (n ≡ length (take n memory))
