-- Document 02, Q-1: a sign and then its styling, from a dash on. The sign is read in units of w bytes, the styling byte by byte.
use Rattle.std.specs.Prelude.{ℕ, suc, ◌+◌, List, [], ◌∷◌, eqb, ltb, length, take, drop}
use Prim.Native.Char.{code}
use Rattle.format.specs.Format.{Format, choose, sequence}
use Rattle.format.specs.Places.{Outcome, fine, refused, ends_short, reading}
use Rattle.charset.specs.declared.Charset.{Charset}
use Rattle.charset.specs.Tokens.{tokens}
use Rattle.grammar.specs.Sign.{Meaning, sign}
use Rattle.stylinggrammar.specs.Styling.{Spelling, styling}

-- the offset of the first dash, or the length of the text
unfoldable pub dash_at : List ℕ → ℕ
dash_at [] = 0
dash_at (b ∷ text) = choose (eqb b (code "-")) 0 (suc (dash_at text))

-- how a sign of the format f and its styling are written
abbrev pub styled : {A : Type 0} → Format A → Format (A × Spelling)
styled f = sequence f λ m. styling

-- without a dash after a whole sign the text is read as a sign, and a whole sign is unfinished
abbrev pub undashed : {A : Type 0} → Outcome A → Outcome (A × Spelling)
undashed (fine m) = ends_short
undashed (refused p) = refused p
undashed ends_short = ends_short

-- the styling of the sign m, at an offset
abbrev pub dashed : {A : Type 0} → ℕ → A → Outcome Spelling → Outcome (A × Spelling)
dashed at m (fine t) = fine (m, t)
dashed at m (refused p) = refused (at + p)
dashed at m ends_short = ends_short

module _ {A : Type 0} (w : ℕ) (f : Format A) where
  -- what stands before an offset is the sign, if it is a whole one
  abbrev pub split : List ℕ → ℕ → Outcome A → Outcome (A × Spelling)
  split text at (fine m) = dashed at m (reading 1 styling (drop at text))
  split text at (refused p) = undashed (reading w f text)
  split text at ends_short = undashed (reading w f text)

  unfoldable pub read_both : List ℕ → Outcome (A × Spelling)
  read_both text =
      choose (ltb (dash_at text) (length text))
      (split text (dash_at text) (reading w f (take (dash_at text) text)))
      (undashed (reading w f text))

-- reading a styled text in a character set
abbrev pub read_styled : Charset → List ℕ → Outcome (Meaning × Spelling)
read_styled set text = read_both (tokens set).unit (sign set) text
