-- What the words of a query mean (document 01, "Symbols and numbers" and "A query"). The alternatives of a query that was accepted are
-- valid, and there are no more than 32 items of the prefix and 32 of the signbox. Its words may be followed by zeros.
use Rattle.std.specs.Prelude.{ℕ, ◌%◌, ◌≤◌, ◌≡◌, List, ◌++◌, true, ◌⊎◌, ◌↔◌, length, drop}
use Rattle.grammar.specs.Sign.{Spatial, Meaning}
use Rattle.token.specs.Padded.{padded}
use Rattle.querygrammar.specs.Spelling.{Item}
use Rattle.querygrammar.specs.Query.{Sought, Query, lists_of, ValidItem, ValidSought, ValidQuery}
use Rattle.queryitem.specs.Numbers.{lowest, highest, remainder}
use Rattle.queryitem.specs.Words.{row_words, words_of}
use Rattle.matching.specs.Meets.{Satisfies, SatisfiesOne, Serves, verdict_of}
use Rattle.matching.specs.Inner.{fits_at, serves_at, Laid, verdict_words}

-- a code lies in lo to hi, and its remainder by 16 is turn unless turn is 16
abbrev pub Lies : ℕ → ℕ → ℕ → ℕ → Type 0
Lies lo hi turn code = (lo ≤ code) × ((code ≤ hi) × ((turn ≡ 16) ⊎ (code % 16 ≡ turn)))

pub record WordsLaws : Type 0 where
  -- the three words of an alternative say of a code what it says
  pub item : (i : Item) (code : ℕ) → ValidItem i → Lies (lowest i) (highest i) (remainder i) code ↔ Satisfies i code
  -- a row says of a code what its alternatives say, and of a symbol what they say with their coordinate
  pub fits : (words : List ℕ) (at : ℕ) (s : Sought) (rest : List ℕ) (code : ℕ) → drop at words ≡ row_words s ++ rest → ValidSought s
      → (fits_at words at code ≡ true) ↔ SatisfiesOne s.alternatives code
  pub serves : (words : List ℕ) (at variance : ℕ) (s : Sought) (rest : List ℕ) (symbol : Spatial) → drop at words ≡ row_words s ++ rest → ValidSought s
      → (serves_at words at variance symbol ≡ true) ↔ Serves variance s symbol
  -- the words of a query are laid as judging asks, and the verdict on them is that on the query
  pub laid : (q : Query) (n : ℕ) → length (lists_of q.prefix) ≤ 32 → length q.items ≤ 32 → length (words_of q) ≤ n → Laid (padded n (words_of q))
  pub verdict : (q : Query) (n : ℕ) → length (words_of q) ≤ n → ValidQuery q
      → (m : Meaning) → verdict_words (padded n (words_of q)) m.prefix m.symbols ≡ verdict_of q m
