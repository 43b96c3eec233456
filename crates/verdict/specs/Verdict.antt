-- The verdict on texts: every refusal of the query, then those of the sign, then the judgement (document 01, "Refusal numbers").
use Rattle.std.specs.Prelude.{ℕ, ◌<◌, ◌≡◌, List, true, false, ◌↔◌}
use Rattle.format.specs.Format.{Pairwise}
use Rattle.format.specs.Places.{Formed}
use Rattle.charset.specs.declared.Charset.{Charset}
use Rattle.charset.specs.declared.Charset.TheVariants.{Fsw}
use Rattle.grammar.specs.Sign.{Meaning}
use Rattle.token.specs.Result.{Result, refusal, done}
use Rattle.token.specs.Padded.{padded, zeros}
use Rattle.reader.specs.Signs.{sign_of}
use Rattle.sign.specs.OffsetLaws.{ReadAlike}
use Rattle.querygrammar.specs.declared.Edition.TheVariants.{First as FirstEdition, Second}
use Rattle.querygrammar.specs.Spelling.{first}
use Rattle.querygrammar.specs.Query.{Query, query}
use Rattle.query.specs.Reading.{Asked, query_asked}
use Rattle.matching.specs.Meets.{Serves, Condition, Meets, Verdict, verdict_of, answered}
use Rattle.matching.specs.MeetsLaws.{First}

-- not met, and zeros but for number and place
abbrev pub refused_as : ℕ → ℕ → Verdict
refused_as number place = record { number = number; place = place; met = false; unmet = 0; witnesses = zeros 32 }

-- the verdict of a query on what a text says as a sign
unfoldable pub verdict_on : Query → Result Meaning → Verdict
verdict_on q (refusal number place) = refused_as number place
verdict_on q (done m) = answered (verdict_of q m)

abbrev pub verdict_by : Result Query → Result Meaning → Verdict
verdict_by (refusal number place) sign = refused_as number place
verdict_by (done q) sign = verdict_on q sign

unfoldable pub verdict_in : Charset → Asked → List ℕ → Verdict
verdict_in set query text = verdict_by (query_asked query) (sign_of set text)

-- WHAT IS PROVED OF IT

-- the texts are accepted, and read as a query and a sign
pub record Reads (set : Charset) (query : Asked) (text : List ℕ) (q : Query) (m : Meaning) : Type 0 where
  pub asked : query_asked query ≡ done q
  pub signed : sign_of set text ≡ done m

-- condition n does not hold, and all before it do
abbrev pub FirstUnmet : Query → Meaning → ℕ → Type 0
FirstUnmet q m n = (Condition q m n → ⊥) × ((k : ℕ) → k < n → Condition q m k)

pub record VerdictLaws : Type 0 where
  -- a sign meets a query exactly when all the query's conditions hold
  pub exactly : (set : Charset) (query : Asked) (text : List ℕ)
      → ((verdict_in set query text).met ≡ true) ↔ ((q : Query) × ((m : Meaning) × (Reads set query text q m × Meets q m)))
  -- it is told that condition n is unmet exactly when n is the first that does not hold
  pub first_unmet : (set : Charset) (query : Asked) (text : List ℕ) (n : ℕ)
      → (((verdict_in set query text).number ≡ 0) × (((verdict_in set query text).met ≡ false) × ((verdict_in set query text).unmet ≡ n)))
      ↔ ((q : Query) × ((m : Meaning) × (Reads set query text q m × FirstUnmet q m n)))
  -- where it is met each signbox item has its witness, the first symbol that serves it
  pub witnesses : (set : Charset) (query : Asked) (text : List ℕ) (q : Query) (m : Meaning) → Reads set query text q m → Meets q m
      → (ws : List ℕ) × (((verdict_in set query text).witnesses ≡ padded 32 ws) × Pairwise (λ sought w. First (Serves q.variance sought) w m.symbols) q.items ws)
  -- texts that read as signs equal in all but offsets have the same verdict
  pub alike : (set : Charset) (text : List ℕ) (set₂ : Charset) (text₂ : List ℕ) → ReadAlike set text set₂ text₂ → (query : Asked) → verdict_in set query text ≡ verdict_in set₂ query text₂
  -- a query that is well-formed in the first edition has the same verdict in the second as FSW
  pub editions : (set : Charset) (asked text : List ℕ) → Formed (query first) asked → verdict_in set (FirstEdition, asked) text ≡ verdict_in set (Second Fsw, asked) text
