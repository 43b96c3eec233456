-- What a function that reads one token at an offset of a text answers.
use Rattle.std.specs.Prelude.{Result as Answer, Ok, Err, ℕ, ◌≡◌, List, length}
use Rattle.format.specs.Format.{Format}
use Rattle.format.specs.Located.{Located, found, wrong_at, short_here, locate}
use Rattle.token.specs.declared.refusal.Refusal.{Refusal}
use Rattle.token.specs.declared.refusal.Refusal.TheVariants.{TextWrong, TextShort}
use Rattle.token.specs.Result.{outcome, value_at}

-- its value, the place where a text of size bytes is wrong, or that it is short
abbrev pub told : {A : Type 0} → ℕ → Located A → Answer A Refusal
told size (found v next) = Ok v
told size (wrong_at p) = Err (TextWrong p)
told size short_here = Err (TextShort size)

unfoldable pub token_at : Format ℕ → List ℕ → ℕ → Answer ℕ Refusal
token_at f s at = told (length s) (locate f s at)

-- what is answered comes to what the format does
abbrev pub TokenResult : Type 1
TokenResult = (f : Format ℕ) (s : List ℕ) (at : ℕ) → outcome (token_at f s at) ≡ value_at f s at
