-- Document 02, Q-1: what reading a sign with its styling answers, and what it leaves in the lent record.
use Rattle.std.specs.Prelude.{ℕ, List, length}
use Rattle.charset.specs.declared.Charset.{Charset}
use Rattle.grammar.specs.Sign.{Meaning}
use Rattle.token.specs.Refusal.{zoom_outside, colour_long, styles_long}
use Rattle.token.specs.Result.{Result, refusal, done, on_done, check, and_then, of_outcome}
use Rattle.reader.specs.Signs.{within_limits}
use Rattle.sign.specs.Reading.{Reading, reading_of}
use Rattle.stylinggrammar.specs.Styling.{Spelling}
use Rattle.stylinggrammar.specs.Meaning.{meaning, zooms_good, names_good, styles_few}
use Rattle.stylinggrammar.specs.Record.{record_of}
use Rattle.stylinggrammar.specs.Styled.{read_styled}

-- the limits of a styling, in the order of their numbers over the whole of it
abbrev pub styling_limits : Spelling → Result Spelling
styling_limits t =
    check (zooms_good t) zoom_outside 0
    (check (names_good t) colour_long 0
    (check (styles_few t) styles_long 0
    (done t)))

-- then those of the sign
abbrev pub styled_limits : Meaning × Spelling → Result (Meaning × Spelling)
styled_limits p = and_then (styling_limits p.1) λ t. on_done (λ m. (m, t)) (within_limits p.0)

-- what a text says as a sign with a styling
unfoldable pub styled_of : Charset → List ℕ → Result (Meaning × Spelling)
styled_of set text = and_then (of_outcome (length text) (read_styled set text)) styled_limits

-- the answer: the sign as sign::read gives it, or zeros beside the refusal
abbrev pub styled_reading : Charset → List ℕ → Reading
styled_reading set text = reading_of set (on_done (λ p. p.0) (styled_of set text))

-- the lent record: as it was where the text is refused
abbrev pub record_left : List ℕ → Result (Meaning × Spelling) → List ℕ
record_left before (refusal number place) = before
record_left before (done p) = record_of (meaning p.1)
