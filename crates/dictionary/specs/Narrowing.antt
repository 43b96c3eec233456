-- Narrowing (document 01, "The dictionary and its list"; "Refusal numbers", order).
use Rattle.std.specs.Prelude.{ℕ, List, Bool}
use Rattle.charset.specs.declared.Charset.{Charset}
use Rattle.token.specs.Result.{Result, on_done}
use Rattle.query.specs.Reading.{Asked, query_asked}
use Rattle.lines.specs.Checked.{line_count}
use Rattle.narrowing.specs.Narrowing.{Narrowed, rising, distinct, narrowed_by}
use Rattle.entries.specs.Entries.{readable}
use Rattle.entries.specs.Judging.{meets}

-- a query's refusal, or its test of an entry
abbrev pub test_of : Charset → List ℕ → Asked → Result (ℕ → Bool)
test_of set dict query = on_done (meets set dict) (query_asked query)

-- what a call answers, and the list memory after it; refused as the query is, then as 12, 14, 11, then 13
unfoldable pub narrowed : Charset → List ℕ → List ℕ → ℕ → Asked → Narrowed × List ℕ
narrowed set dict list n query =
    narrowed_by (test_of set dict query) (line_count dict) rising (readable set dict) list n

-- the form for a list in any order, which keeps that order: 11 is the sort's, and 13 the first bad line in list order (document 02, Q-12)
unfoldable pub narrowed_sorted : Charset → List ℕ → List ℕ → ℕ → Asked → Narrowed × List ℕ
narrowed_sorted set dict list n query =
    narrowed_by (test_of set dict query) (line_count dict) distinct (readable set dict) list n
