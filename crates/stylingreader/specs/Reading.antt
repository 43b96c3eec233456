-- What reading a styling string answers, and what it puts into lent memory.
use Rattle.std.specs.Prelude.{Result as Answer, ℕ, ◌≡◌, List, length}
use Rattle.format.specs.Located.{locate, ended}
use Rattle.token.specs.declared.refusal.Refusal.{Refusal}
use Rattle.token.specs.Result.{Result, done, outcome, on_done, of_outcome}
use Rattle.stylinggrammar.specs.Styling.{Spelling, styling}
use Rattle.stylinggrammar.specs.Meaning.{zooms_good, names_good, styles_few}
use Rattle.stylinggrammar.specs.Filling.{put_styling}
use Rattle.stylingreader.specs.declared.reading.Found.{Found}

-- the styling string that stands at an offset of a text, up to its end
unfoldable pub styling_from : List ℕ → ℕ → Result Spelling
styling_from s at = of_outcome (length s) (ended 1 (length s) (locate styling s at))

-- whether it is within each limit
abbrev pub found_of : Spelling → Found
found_of t = record { zooms = zooms_good t; names = names_good t; few = styles_few t }

-- the memory o became p
pub record StylingIn (s : List ℕ) (at : ℕ) (r : Answer Found Refusal) (o p : List ℕ) : Type 0 where
  pub is : outcome r ≡ on_done found_of (styling_from s at)
  pub puts : (t : Spelling) → styling_from s at ≡ done t → p ≡ put_styling t o
