-- What is proved of the grammar of a query, in every edition.
use Rattle.std.specs.Prelude.{ℕ, ◌≡◌, List}
use Prim.Native.Char.{code}
use Rattle.format.specs.Format.{optional, many}
use Rattle.format.specs.Numbers.{After, ByNumbers}
use Rattle.format.specs.Places.{Outcome, fine, reading, ByBytes}
use Rattle.charset.specs.declared.Charset.TheVariants.{Fsw, Swu}
use Rattle.charset.specs.Bytes.{byte, character}
use Rattle.charset.specs.Tokens.{fsw_number}
use Rattle.grammar.specs.SignLaws.{PointNumber}
use Rattle.querygrammar.specs.declared.Edition.{Edition}
use Rattle.querygrammar.specs.declared.Edition.TheVariants.{First, Second}
use Rattle.querygrammar.specs.Scalar.{scalar}
use Rattle.querygrammar.specs.Spelling.{Spelling, first, second_fsw, second_swu, spelling}
use Rattle.querygrammar.specs.Query.{bare_list, signbox_list, head, QueryText, query}

-- what the text of a query says
abbrev pub Text : Edition → Type 0
Text e = QueryText (spelling e).Says

-- reading a whole text as a query; places are counted in bytes, in SWU too
abbrev pub read_query : (e : Edition) → List ℕ → Outcome (Text e)
read_query e text = reading 1 (query (spelling e)) text

-- where coordinate numbers stand: after the alternatives of a signbox item
abbrev pub QueryNumber : Spelling → List ℕ → Type 0
QueryNumber s = After (byte (code "Q")) (After (optional (head s)) (After (many (signbox_list s)) (After (bare_list s) PointNumber)))

-- the law of places: byte by byte, and in FSW a wrong number at its first
abbrev pub Places : Edition → Type 0
Places First = ByNumbers fsw_number (query first) (QueryNumber first)
Places (Second Fsw) = ByNumbers fsw_number (query second_fsw) (QueryNumber second_fsw)
Places (Second Swu) = ByBytes (query second_swu)

pub record QueryLaws (e : Edition) : Type 0 where
  -- reading what was written gives the query back, and writing what was read gives the text back
  pub reads : (t : Text e) → (query (spelling e)).Valid t → read_query e ((query (spelling e)).write t) ≡ fine t
  pub writes : (text : List ℕ) (t : Text e) → read_query e text ≡ fine t → (query (spelling e)).Valid t × (text ≡ (query (spelling e)).write t)
  pub places : Places e

-- the characters of a query have the bytes of those of a sign
abbrev pub SameCharacters : Type 0
SameCharacters = (from lo hi n : ℕ) → (scalar from lo hi).write n ≡ (character from lo hi).write n
