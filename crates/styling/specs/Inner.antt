-- What the inner functions that read a styled text promise.
use Rattle.std.specs.Prelude.{Result as Answer, Err, ℕ, ◌≡◌, List, [], length, drop}
use Rattle.format.specs.Format.{choose}
use Rattle.format.specs.Places.{reading}
use Rattle.charset.specs.declared.Charset.{Charset}
use Rattle.grammar.specs.declared.Head.{Head}
use Rattle.grammar.specs.declared.Symbols.{Symbols}
use Rattle.grammar.specs.Sign.{Meaning, read_sign}
use Rattle.token.specs.Padded.{zeros}
use Rattle.token.specs.declared.refusal.Refusal.{Refusal}
use Rattle.token.specs.declared.refusal.Refusal.TheVariants.{ZoomOutside, ColourLong, StylesLong}
use Rattle.token.specs.Refusal.{number_of, place_of}
use Rattle.token.specs.Result.{Result, refusal, done, outcome, on_done, and_then, of_outcome}
use Rattle.reader.specs.Inner.{head_of, HoldsSign, limited}
use Rattle.stylinggrammar.specs.Styling.{Spelling, styling}
use Rattle.stylinggrammar.specs.Meaning.{meaning}
use Rattle.stylinggrammar.specs.StylingLaws.{Accepted}
use Rattle.stylinggrammar.specs.Record.{draft_size, record_of}
use Rattle.stylinggrammar.specs.Filling.{put_styling}
use Rattle.stylinggrammar.specs.Styled.{dash_at, undashed, dashed}
use Rattle.stylingreader.specs.declared.reading.Found.{Found}
use Rattle.stylingreader.specs.Reading.{styling_from}
use Rattle.styling.specs.Reading.{styled_limits, styled_of}

-- a styled text that was read: its sign in memory, and where its styling starts
pub record StyledInto (set : Charset) (s : List ℕ) (r : Answer (Head × ℕ) Refusal) (symbols : Symbols) : Type 0 where
  pub is : outcome r ≡ on_done (λ p. (head_of p.0, dash_at s)) (styled_of set s)
  pub holds : HoldsSign (on_done (λ p. p.0) (styled_of set s)) symbols

-- the refusal of a text without a dash after a whole sign
pub record Undashed (set : Charset) (s : List ℕ) (e : Refusal) : Type 0 where
  pub is : refusal (number_of e) (place_of e) ≡ of_outcome (length s) (undashed (read_sign set s))

-- a sign and its styling, judged in the order of the refusals
unfoldable pub judged_head : Found → Head → Answer Head Refusal
judged_head f h = choose f.zooms (choose f.names (choose f.few (limited h) (Err StylesLong)) (Err ColourLong)) (Err ZoomOutside)

-- what a sign comes to with the styling that stands at an offset
abbrev pub with_styling : List ℕ → ℕ → Meaning → Result (Meaning × Spelling)
with_styling s at m = and_then (of_outcome (length s) (dashed at m (reading 1 styling (drop at s)))) styled_limits

-- that was read, into lent memory that was o
pub record StylingAfter (s : List ℕ) (at : ℕ) (h : Head) (r : Answer (Head × ℕ) Refusal) (o p : List ℕ) : Type 0 where
  pub is : (m : Meaning) → h ≡ head_of m → outcome r ≡ on_done (λ p. (head_of p.0, at)) (with_styling s at m)
  pub puts : (t : Spelling) → styling_from s at ≡ done t → p ≡ put_styling t o

-- the styling of a text that was read, in lent memory that was o
pub record DraftInto (set : Charset) (s o p : List ℕ) : Type 0 where
  pub is : (k : Meaning × Spelling) → styled_of set s ≡ done k → p ≡ put_styling k.1 o

-- a styling within its limits, its draft, and its record
pub record Ready (s draft : List ℕ) : Type 0 where
  pub spelling : Spelling
  pub reads : styling_from s 0 ≡ done spelling
  pub accepted : Accepted spelling
  pub kept : draft ≡ put_styling spelling (zeros draft_size)

abbrev pub record_in : Result Spelling → List ℕ
record_in (refusal number place) = []
record_in (done t) = record_of (meaning t)
