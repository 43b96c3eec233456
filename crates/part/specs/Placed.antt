-- What a function that reads a part of a sign at an offset of a text answers.
use Rattle.std.specs.Prelude.{Result as Answer, ◌≡◌, ℕ, List, length}
use Rattle.format.specs.Format.{Format}
use Rattle.format.specs.Located.{Located, locate, on_found}
use Rattle.token.specs.declared.refusal.Refusal.{Refusal}
use Rattle.token.specs.Result.{Result, on_done, outcome, value_at}
use Rattle.token.specs.Token.{told}
use Rattle.part.specs.declared.reading.Placed.{Placed}

-- a code or a marker with its coordinate
abbrev pub to_placed : ℕ × (ℕ × ℕ) → Placed
to_placed p = record { value = p.0; x = p.1.0; y = p.1.1 }

abbrev pub of_placed : Placed → ℕ × (ℕ × ℕ)
of_placed p = (p.value, (p.x, p.y))

-- document 01's number and place, or the value with its coordinate
abbrev pub placed_result : Answer Placed Refusal → Result (ℕ × (ℕ × ℕ))
placed_result r = on_done of_placed (outcome r)

abbrev pub told_placed : ℕ → Located (ℕ × (ℕ × ℕ)) → Answer Placed Refusal
told_placed size l = told size (on_found to_placed l)

-- at an offset
unfoldable pub placed_at : Format (ℕ × (ℕ × ℕ)) → List ℕ → ℕ → Answer Placed Refusal
placed_at f s at = told_placed (length s) (locate f s at)

-- what is answered comes to what the format does
abbrev pub PlacedResult : Type 1
PlacedResult = (f : Format (ℕ × (ℕ × ℕ))) (s : List ℕ) (at : ℕ) → placed_result (placed_at f s at) ≡ value_at f s at
