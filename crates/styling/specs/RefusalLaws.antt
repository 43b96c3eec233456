-- Document 02, Q-1: which texts `read_styled` refuses, with which number and place, exactly, and what it answers and leaves otherwise.
use Rattle.std.specs.Prelude.{ℕ, ◌≤◌, ◌<◌, ◌≡◌, List, ◌++◌, true, false, ◌⊎◌, ◌↔◌, length}
use Rattle.format.specs.Numeral.{Range}
use Rattle.format.specs.Places.{Refused, EndsShort, Unfinished}
use Rattle.format.specs.Numbers.{Place}
use Rattle.charset.specs.declared.Charset.{Charset}
use Rattle.charset.specs.declared.Charset.TheVariants.{Fsw, Swu}
use Rattle.grammar.specs.Sign.{Meaning, Valid, sign, sign_text}
use Rattle.grammar.specs.SignLaws.{SignNumber}
use Rattle.token.specs.Refusal.{text_wrong, text_short, prefix_long, signbox_long, zoom_outside, colour_long, styles_long}
use Rattle.sign.specs.Reading.{packed}
use Rattle.sign.specs.RefusalLaws.{Answers}
use Rattle.stylinggrammar.specs.Styling.{Spelling, styling}
use Rattle.stylinggrammar.specs.Meaning.{meaning, zooms_good, names_good, styles_few}
use Rattle.stylinggrammar.specs.StylingLaws.{Accepted}
use Rattle.stylinggrammar.specs.Record.{record_of}
use Rattle.stylinggrammar.specs.Styled.{styled}
use Rattle.stylinggrammar.specs.StyledLaws.{Dashed}
use Rattle.styling.specs.Reading.{styled_of, styled_reading, record_left}

-- the text is well-formed: the sign m, and then the styling spelled t
abbrev pub SaysStyled : Charset → List ℕ → Meaning → Spelling → Type 0
SaysStyled set text m t = Valid m × (styling.Valid t × (text ≡ sign_text set m ++ styling.write t))

-- in SWU a text is taken byte by byte where a dash follows a whole sign, and otherwise by groups of four bytes
abbrev pub ByUnits : (ℕ → Type 0) → List ℕ → Type 0
ByUnits Holds text = (Dashed (sign Swu) text × Holds 1) ⊎ ((Dashed (sign Swu) text → ⊥) × Holds 4)

-- the text is wrong at p: in FSW byte by byte, a wrong coordinate number of the sign at its first
abbrev pub StyledWrongAt : Charset → List ℕ → ℕ → Type 0
StyledWrongAt Fsw text p = Place (styled (sign Fsw)) SignNumber text p
StyledWrongAt Swu text p = ByUnits (λ w. Refused w (styled (sign Swu)) text p) text

-- the text stops early: nothing in it is wrong, and it is not well-formed
abbrev pub StyledStopsEarly : Charset → List ℕ → Type 0
StyledStopsEarly Fsw text = Unfinished (styled (sign Fsw)) text
StyledStopsEarly Swu text = ByUnits (λ w. EndsShort w (styled (sign Swu)) text) text

pub record StyledRefusalLaws (set : Charset) : Type 0 where
  -- 1 and 2
  pub wrong : (text : List ℕ) (p : ℕ) → Answers (styled_reading set text) text_wrong p ↔ StyledWrongAt set text p
  pub short : (text : List ℕ) (p : ℕ) → Answers (styled_reading set text) text_short p ↔ (StyledStopsEarly set text × (p ≡ length text))
  -- 17, 18, 19, 3 and 4, of a text that is well-formed: each where what is refused before it is not the case
  pub refuses_zoom : (text : List ℕ) (p : ℕ)
      → Answers (styled_reading set text) zoom_outside p ↔ ((m : Meaning) × (t : Spelling) × SaysStyled set text m t × (zooms_good t ≡ false) × (p ≡ 0))
  pub refuses_colour : (text : List ℕ) (p : ℕ)
      → Answers (styled_reading set text) colour_long p
      ↔ ((m : Meaning) × (t : Spelling) × SaysStyled set text m t × (zooms_good t ≡ true) × (names_good t ≡ false) × (p ≡ 0))
  pub refuses_styles : (text : List ℕ) (p : ℕ)
      → Answers (styled_reading set text) styles_long p
      ↔ ((m : Meaning) × (t : Spelling) × SaysStyled set text m t × (zooms_good t ≡ true) × (names_good t ≡ true) × (styles_few t ≡ false) × (p ≡ 0))
  pub refuses_prefix : (text : List ℕ) (p : ℕ)
      → Answers (styled_reading set text) prefix_long p ↔ ((m : Meaning) × (t : Spelling) × SaysStyled set text m t × Accepted t × (32 < length m.prefix) × (p ≡ 0))
  pub refuses_signbox : (text : List ℕ) (p : ℕ)
      → Answers (styled_reading set text) signbox_long p
      ↔ ((m : Meaning) × (t : Spelling) × SaysStyled set text m t × Accepted t × (length m.prefix ≤ 32) × (64 < length m.symbols) × (p ≡ 0))
  -- done exactly where all is within the limits: the answer is then the sign, and the record that of the styling, whatever was there before
  pub accepted : (text : List ℕ)
      → ((styled_reading set text).number ≡ 0)
      ↔ ((m : Meaning) × (t : Spelling) × SaysStyled set text m t × Accepted t × (length m.prefix ≤ 32) × (length m.symbols ≤ 64))
  pub reads : (text : List ℕ) (m : Meaning) (t : Spelling) → SaysStyled set text m t → Accepted t → length m.prefix ≤ 32 → length m.symbols ≤ 64
      → (styled_reading set text ≡ record { number = 0; place = 0; sign = packed set m }) × ((before : List ℕ) → record_left before (styled_of set text) ≡ record_of (meaning t))
  -- no other number is given
  pub numbers : (text : List ℕ) → ((styled_reading set text).number ≤ 4) ⊎ Range 17 19 (styled_reading set text).number
