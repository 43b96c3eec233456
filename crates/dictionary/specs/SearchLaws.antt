-- What searching has to do with opening (document 01, "The dictionary and its list") and with narrowing (document 02, Q-10).
use Rattle.std.specs.Prelude.{ℕ, ◌≡◌, List, ◌++◌, true, length}
use Rattle.charset.specs.Bytes.{ascii}
use Rattle.charset.specs.declared.Charset.{Charset}
use Rattle.token.specs.Result.{Result, refusal, done}
use Rattle.querygrammar.specs.declared.Edition.{Edition}
use Rattle.query.specs.Reading.{Asked, query_asked}
use Rattle.lines.specs.Lines.{lines}
use Rattle.narrowing.specs.Narrowing.{rising, narrowing}
use Rattle.entries.specs.Entries.{entries_of}
use Rattle.books.specs.Book.{book_of}
use Rattle.books.specs.Fills.{opening_in}
use Rattle.dictionary.specs.Search.{found}
use Rattle.dictionary.specs.Narrowing.{narrowed}

-- what opening writes: 1 to the line count, refused as 12, 14, then 13
unfoldable pub opening : Charset → List ℕ → Result (List ℕ)
opening set dict = opening_in (book_of (set, dict))

pub record SearchLaws : Type 0 where
  -- a query that is refused is told so, whatever the dictionary
  pub query_first : (set : Charset) (dict : List ℕ) (query : Asked) (number place : ℕ) → query_asked query ≡ refusal number place
      → found set dict query ≡ refusal number place
  -- searching by `Q`, in every edition, writes what opening writes and is refused as it is
  pub whole : (set : Charset) (dict : List ℕ) (e : Edition) → found set dict (e, ascii "Q") ≡ opening set dict
  -- where a dictionary opens, searching finds what narrowing keeps of all its entries, and is refused as it is
  pub narrows : (set : Charset) (dict rest : List ℕ) (query : Asked) → opening set dict ≡ done (entries_of dict)
      → narrowed set dict (entries_of dict ++ rest) (length (entries_of dict)) query
      ≡ narrowing (entries_of dict ++ rest) (length (entries_of dict)) (found set dict query)
  -- what is found rises in 1 to the line count
  pub rises : (set : Charset) (dict : List ℕ) (query : Asked) (entries : List ℕ) → found set dict query ≡ done entries
      → rising (length (lines dict)) entries ≡ true
