-- Document 02, Q-1: a record as the shortest styling string that reads as it.
use Rattle.std.specs.Prelude.{ℕ, List, Bool, false, eqb, length}
use Rattle.std.specs.Cmp.Lexicographic.{pointwise}
use Rattle.format.specs.Places.{reading}
use Rattle.token.specs.Refusal.{text_wrong}
use Rattle.token.specs.Result.{Result, refusal, done, on_done, check, and_then, of_outcome}
use Rattle.stylinggrammar.specs.Styling.{styling}
use Rattle.stylinggrammar.specs.Meaning.{meaning, styling_text}
use Rattle.stylinggrammar.specs.Record.{record_of, styling_in}
use Rattle.styling.specs.Reading.{styling_limits}

-- the record that a styling string by itself reads as
unfoldable pub record_read : List ℕ → Result (List ℕ)
record_read text = on_done (λ t. record_of (meaning t)) (and_then (of_outcome (length text) (reading 1 styling text)) styling_limits)

abbrev pub same_numbers : List ℕ → List ℕ → Bool
same_numbers = pointwise eqb

abbrev pub is_record : List ℕ → Result (List ℕ) → Bool
is_record w (refusal number place) = false
is_record w (done v) = same_numbers w v

-- The text of the styling in a record is written if it reads as that record. Otherwise no text does.
unfoldable pub writing : List ℕ → Result (List ℕ)
writing w = check (is_record w (record_read (styling_text (styling_in w)))) text_wrong 0 (done (styling_text (styling_in w)))
