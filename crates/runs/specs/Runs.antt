-- A whole run, with the queries as lines of bytes: demand 3 in one equation, from the dictionary and the queries alone.
use Rattle.std.specs.Prelude.{ℕ, ◌-◌, List, [], ◌∷◌, map, eqb, length, drop}
use Prim.Native.Char.{code}
use Rattle.format.specs.Format.{choose}
use Rattle.charset.specs.declared.Charset.{Charset}
use Rattle.charset.specs.declared.Charset.TheVariants.{Fsw, Swu}
use Rattle.token.specs.Refusal.{text_short}
use Rattle.token.specs.Result.{Result, refusal, done, in_room}
use Rattle.querygrammar.specs.declared.Edition.TheVariants.{First, Second}
use Rattle.query.specs.Reading.{Asked}
use Rattle.lines.specs.Lines.{lines, ended}
use Rattle.narrowing.specs.Narrowing.{Narrowed, not_narrowed, filled}
use Rattle.narrowing.specs.Run.{Ended, total}
use Rattle.dictionary.specs.Search.{found}
use Rattle.runs.specs.Demand3.{meeting}

-- The query of a line: after F or S it is of the second edition, in FSW or in SWU. Any other line is a query of the first, all of it:
-- each begins with Q.
unfoldable pub asking : List ℕ → Asked
asking [] = (First, [])
asking (b ∷ line) = choose (eqb b (code "F")) (Second Fsw, line) (choose (eqb b (code "S")) (Second Swu, line) (First, b ∷ line))

-- how a run is answered: the entries left and all the dropped counts, and the list memory
unfoldable pub ended_as : Ended → Narrowed × List ℕ
ended_as r = (record { number = 0; place = 0; kept = r.count; dropped = total r.answers }, r.list)

-- with `left` of n entries: these, zeros to n, and beyond that what was there before
abbrev pub leaving : List ℕ → ℕ → List ℕ → Narrowed × List ℕ
leaving list n left = (record { number = 0; place = 0; kept = length left; dropped = n - length left }, filled n left (drop n list))

-- the refusal of the search, or what is left of the entries that it wrote
abbrev pub ran_as : Charset → List ℕ → List ℕ → List Asked → Result (List ℕ) → Narrowed × List ℕ
ran_as set dict list queries (refusal number place) = (not_narrowed number place, list)
ran_as set dict list queries (done entries) = leaving list (length entries) (meeting set dict queries)

-- a search by `first`, and a call by the query of each line; queries that are not ended are refused before it, as 2 at their length
unfoldable pub ran_on : Charset → List ℕ → List ℕ → Asked → List ℕ → Narrowed × List ℕ
ran_on set dict list first queries =
    choose (ended queries) (ran_as set dict list (first ∷ map asking (lines queries)) (in_room (length list) (found set dict first))) (not_narrowed text_short (length queries), list)
