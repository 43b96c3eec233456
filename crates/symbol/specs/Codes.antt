-- Symbol keys and characters against symbol codes.
use Rattle.std.specs.Prelude.{Result as Answer, ℕ, List, ltb, length}
use Rattle.format.specs.Format.{choose}
use Rattle.format.specs.Places.{reading}
use Rattle.charset.specs.declared.Charset.{Charset}
use Rattle.charset.specs.Tokens.{tokens, last_punctuation, last_code}
use Rattle.token.specs.declared.refusal.Refusal.{Refusal}
use Rattle.token.specs.Refusal.{code_wrong}
use Rattle.token.specs.Result.{Result, refusal, done, of_outcome, outcome}
use Rattle.token.specs.Symbol.{any_symbol}

-- What reading a key or a character answers, as numbers: the symbol's code, 0 for null, and zeros where the call is refused.
pub record Code : Type 0 where
  pub number : ℕ
  pub place : ℕ
  pub code : ℕ

abbrev pub code_of : Charset → List ℕ → Result ℕ
code_of set text = of_outcome (length text) (reading (tokens set).unit (any_symbol set) text)

abbrev pub code_as : Result ℕ → Code
code_as (refusal number place) = record { number = number; place = place; code = 0 }
code_as (done code) = record { number = 0; place = 0; code = code }

-- and by the function that reads it
abbrev pub as_code : Answer ℕ Refusal → Code
as_code answer = code_as (outcome answer)

unfoldable pub code_read : Charset → List ℕ → Code
code_read set text = code_as (code_of set text)

-- the text of a code; over 62,592 there is none
unfoldable pub code_text : Charset → ℕ → Result (List ℕ)
code_text set code = choose (ltb (last_code last_punctuation) code) (refusal code_wrong 0) (done ((any_symbol set).write code))
