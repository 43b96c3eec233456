-- What is proved of drafts: the start of a record, with room for 8 symbol styles.
use Rattle.std.specs.Prelude.{ℕ, ◌-◌, ◌≤◌, ◌≡◌, List, ◌++◌, length, get_or, take}
use Rattle.token.specs.Padded.{zeros}
use Rattle.stylinggrammar.specs.Styling.{Spelling, styling}
use Rattle.stylinggrammar.specs.Meaning.{meaning}
use Rattle.stylinggrammar.specs.StylingLaws.{Accepted}
use Rattle.stylinggrammar.specs.Record.{record_size, draft_size, record_of}
use Rattle.stylinggrammar.specs.Filling.{put_styling}

-- a draft tells how many symbol styles there are; where it has room for them, it is the record but for zeros after it
pub record Drafted (t : Spelling) (draft : List ℕ) : Type 0 where
  pub size : length draft ≡ draft_size
  pub count : get_or draft 4 0 ≡ length (meaning t).symbols
  pub start : length (meaning t).symbols ≤ 8 → record_of (meaning t) ≡ draft ++ zeros (record_size - draft_size)

pub record DraftLaws : Type 0 where
  -- a shorter memory is filled with the start of what a longer one is
  pub starts : (k : ℕ) (t : Spelling) (o : List ℕ) → take k (put_styling t o) ≡ put_styling t (take k o)
  -- filled part by part, zeros become a draft
  pub drafts : (t : Spelling) → styling.Valid t → Accepted t → Drafted t (put_styling t (zeros draft_size))
