-- Document 02, Q-1: what is proved of signs with a styling, and of writing stylings.
use Rattle.std.specs.Prelude.{ℕ, ◌≤◌, ◌≡◌, List, ◌++◌, ◌↔◌, length, take, drop}
use Rattle.charset.specs.declared.Charset.{Charset}
use Rattle.grammar.specs.Sign.{Meaning}
use Rattle.token.specs.Refusal.{text_wrong}
use Rattle.token.specs.Result.{refusal, done, written, left_text, Leaves}
use Rattle.reader.specs.Signs.{sign_of}
use Rattle.sign.specs.Reading.{reading_in}
use Rattle.sign.specs.Transcription.{other_set, transcription}
use Rattle.stylinggrammar.specs.Styling.{Spelling}
use Rattle.stylinggrammar.specs.Styled.{dash_at}
use Rattle.styling.specs.Reading.{styled_of, styled_reading, record_left}
use Rattle.styling.specs.Transcription.{styled_transcription}
use Rattle.styling.specs.Writing.{record_read, writing}

-- reading a text answers 0 and leaves these numbers in the lent record, whatever was there before
abbrev pub HasRecord : Charset → List ℕ → List ℕ → Type 0
HasRecord set text w = ((styled_reading set text).number ≡ 0) × ((before : List ℕ) → record_left before (styled_of set text) ≡ w)

pub record ReadingLaws : Type 0 where
  -- The sign of a styled text is what the plain reader reads of the bytes before the dash, its offsets too,
  pub sign : (set : Charset) (text : List ℕ) (p : Meaning × Spelling) → styled_of set text ≡ done p → styled_reading set text ≡ reading_in set (take (dash_at text) text)
  -- and the record is that of the styling string by itself.
  pub styling : (set : Charset) (text w : List ℕ) → HasRecord set text w → record_read (drop (dash_at text) text) ≡ done w
  -- Any sign that is read and any styling string that reads as a record make a styled text of that sign and that record.
  pub joined : (set : Charset) (text : List ℕ) (m : Meaning) (string w : List ℕ) → sign_of set text ≡ done m → record_read string ≡ done w
      → HasRecord set (text ++ string) w × (styled_reading set (text ++ string) ≡ reading_in set text)

pub record WritingLaws : Type 0 where
  -- a record is refused exactly where no text reads as it
  pub refused : (w : List ℕ) → (writing w ≡ refusal text_wrong 0) ↔ ((text : List ℕ) → record_read text ≡ done w → ⊥)
  -- what is written reads as the record that it was written from
  pub reads : (w text : List ℕ) → writing w ≡ done text → record_read text ≡ done w
  -- a record that was read is written, as its shortest text: none that reads as it is shorter, and no other is as short
  pub writes : (w text : List ℕ) → record_read text ≡ done w → (short : List ℕ) × (writing w ≡ done short)
  pub shortest : (w text short : List ℕ) → record_read text ≡ done w → writing w ≡ done short → length short ≤ length text
  pub unique : (w text short : List ℕ) → record_read text ≡ done w → writing w ≡ done short → length text ≤ length short → text ≡ short
  -- writing, reading and writing again gives the text of the first writing
  pub again : (w text v : List ℕ) → writing w ≡ done text → record_read text ≡ done v → writing v ≡ done text

pub record StyledTranscriptionLaws : Type 0 where
  -- the sign is transcribed as by itself, and the bytes from the dash on are the same
  pub sign : (set : Charset) (text other : List ℕ) → styled_transcription set text ≡ done other
      → transcription set (take (dash_at text) text) ≡ done (take (dash_at other) other)
  pub styling : (set : Charset) (text other : List ℕ) → styled_transcription set text ≡ done other → drop (dash_at other) other ≡ drop (dash_at text) text
  -- transcribing there and back returns the same bytes
  pub back : (set : Charset) (text other : List ℕ) → styled_transcription set text ≡ done other → styled_transcription (other_set set) other ≡ done text
  -- so do two calls, given room: where the first answers 0, the call back on what it wrote leaves the first text
  pub returned : (set : Charset) (text out room : List ℕ) → (written out (styled_transcription set text)).number ≡ 0 → length text ≤ length room
      → Leaves room (styled_transcription (other_set set) (left_text out (styled_transcription set text))) text
