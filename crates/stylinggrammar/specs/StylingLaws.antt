-- What is proved of styling strings.
use Rattle.std.specs.Prelude.{ℕ, ◌≤◌, ◌≡◌, List, true, ◌↔◌, length}
use Rattle.format.specs.Places.{fine, reading, ByBytes}
use Rattle.stylinggrammar.specs.Styling.{Spelling, styling}
use Rattle.stylinggrammar.specs.Meaning.{Styling, meaning, zooms_good, names_good, styles_few, Valid, styling_text}

-- a spelling that is not refused as 17, 18 or 19
pub record Accepted (t : Spelling) : Type 0 where
  pub zooms : zooms_good t ≡ true
  pub names : names_good t ≡ true
  pub few : styles_few t ≡ true

-- a text reads as a styling
pub record Reads (text : List ℕ) (s : Styling) : Type 0 where
  pub spelling : Spelling
  pub reads : reading 1 styling text ≡ fine spelling
  pub accepted : Accepted spelling
  pub means : meaning spelling ≡ s

pub record StylingLaws : Type 0 where
  -- what is read is what is written so, and a refusal has its place byte by byte
  pub fines : (text : List ℕ) (t : Spelling) → (reading 1 styling text ≡ fine t) ↔ (styling.Valid t × (text ≡ styling.write t))
  pub places : ByBytes styling
  -- reading what was written gives the styling back, and no others are read
  pub reads : (s : Styling) → Valid s → Reads (styling_text s) s
  pub valid : (text : List ℕ) (s : Styling) → Reads text s → Valid s
  -- what is written is the shortest spelling: none that reads as the same is shorter, and no other is as short
  pub shortest : (text : List ℕ) (s : Styling) → Reads text s → length (styling_text s) ≤ length text
  pub unique : (text : List ℕ) (s : Styling) → Reads text s → length text ≤ length (styling_text s) → text ≡ styling_text s

-- the longest text that is written has 3,547 bytes, and one is as long
pub record LongestStyling : Type 0 where
  pub most : (s : Styling) → Valid s → length (styling_text s) ≤ 3547
  pub styling : Styling
  pub valid : Valid styling
  pub size : length (styling_text styling) ≡ 3547
