-- Which entries of a dictionary meet a query.
use Rattle.std.specs.Prelude.{ℕ, List, Bool, not, ◌&&◌, eqb}
use Rattle.charset.specs.declared.Charset.{Charset}
use Rattle.reader.specs.Signs.{sign_of}
use Rattle.querygrammar.specs.Query.{Query, present, kind_of}
use Rattle.matching.specs.Inner.{word}
use Rattle.verdict.specs.Verdict.{verdict_on}
use Rattle.verdict.specs.Inner.{verdict_on_words}
use Rattle.lines.specs.Lines.{line_of}

-- the verdict of the query on the sign that the entry's line reads as
abbrev pub meets : Charset → List ℕ → Query → ℕ → Bool
meets set dict q e = (verdict_on q (sign_of set (line_of dict e))).met

-- the same of a query that lies in words
abbrev pub meets_words : Charset → List ℕ → List ℕ → ℕ → Bool
meets_words set dict words e = (verdict_on_words words (sign_of set (line_of dict e))).met

-- words of a query that has no condition: every sign meets it
unfoldable pub asks_nothing : List ℕ → Bool
asks_nothing words = not (eqb (word words 0) (kind_of present)) && (eqb (word words 1) 0 && eqb (word words 2) 0)
