-- What is proved of records.
use Rattle.std.specs.Prelude.{◌≡◌, length}
use Rattle.stylinggrammar.specs.Styling.{Spelling, styling}
use Rattle.stylinggrammar.specs.Meaning.{Styling, meaning, Valid}
use Rattle.stylinggrammar.specs.StylingLaws.{Accepted}
use Rattle.token.specs.Padded.{zeros}
use Rattle.stylinggrammar.specs.Record.{record_size, record_of, styling_in}
use Rattle.stylinggrammar.specs.Filling.{put_styling}

pub record RecordLaws : Type 0 where
  pub size : (s : Styling) → length (record_of s) ≡ record_size
  -- a record has one styling
  pub back : (s : Styling) → Valid s → styling_in (record_of s) ≡ s
  -- filled part by part, zeros become the record of what is meant
  pub fills : (t : Spelling) → styling.Valid t → Accepted t → put_styling t (zeros record_size) ≡ record_of (meaning t)
