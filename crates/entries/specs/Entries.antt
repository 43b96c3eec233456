-- The entries of a dictionary (document 01, "The dictionary and its list"): entry e is line e, counted from 1.
use Rattle.std.specs.Prelude.{ℕ, List, Bool, true, false, length}
use Rattle.charset.specs.declared.Charset.{Charset}
use Rattle.token.specs.Result.{Result, refusal, done}
use Rattle.reader.specs.Signs.{sign_of}
use Rattle.narrowing.specs.Narrowing.{up_to, first_bad}
use Rattle.lines.specs.Lines.{lines, line_of}

-- 1 to the line count
abbrev pub entries_of : List ℕ → List ℕ
entries_of dict = up_to (length (lines dict))

abbrev pub is_done : {A : Type 0} → Result A → Bool
is_done (refusal number place) = false
is_done (done a) = true

-- whether the sign reader reads the line of an entry
abbrev pub readable : Charset → List ℕ → ℕ → Bool
readable set dict e = is_done (sign_of set (line_of dict e))

-- the first of the entries whose line it refuses, or 0
abbrev pub first_wrong : Charset → List ℕ → List ℕ → ℕ
first_wrong set dict entries = first_bad (readable set dict) entries
