-- What the inner functions of the verdict promise of a query that lies in words.
use Rattle.std.specs.Prelude.{ℕ, ◌+◌, ◌≤◌, ◌≡◌, List, length, Bool}
use Rattle.grammar.specs.Sign.{Meaning}
use Rattle.token.specs.Result.{Result, refusal, done, on_done}
use Rattle.querygrammar.specs.declared.Edition.{Edition}
use Rattle.querygrammar.specs.Query.{Query}
use Rattle.queryitem.specs.Words.{spare, words_of}
use Rattle.query.specs.Reading.{query_of}
use Rattle.matching.specs.Meets.{Verdict, answered, is_met}
use Rattle.matching.specs.Inner.{verdict_in_words}
use Rattle.verdict.specs.Verdict.{refused_as}

-- the verdict of words on what a text says as a sign, and whether it is met
unfoldable pub verdict_on_words : List ℕ → Result Meaning → Verdict
verdict_on_words words (refusal number place) = refused_as number place
verdict_on_words words (done m) = answered (verdict_in_words words m)

abbrev pub met_on_words : List ℕ → Result Meaning → Result Bool
met_on_words words = on_done (λ m. is_met (verdict_in_words words m))

-- n words in which the query of a text has room, and 21 more
abbrev pub Fits : Edition → List ℕ → ℕ → Type 0
Fits e s n = (q : Query) → query_of e s ≡ done q → length (words_of q) + spare ≤ n
