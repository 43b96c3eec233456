-- What is proved of shifting and centring.
use Rattle.std.specs.Prelude.{ℕ, ◌≤◌, ◌≡◌, List, ℤ, pos, length}
use Rattle.charset.specs.declared.Charset.{Charset}
use Rattle.grammar.specs.Sign.{Meaning}
use Rattle.token.specs.Result.{done, written, left_text, Leaves, Unchanged}
use Rattle.reader.specs.Signs.{sign_of}
use Rattle.sign.specs.Reading.{reading_in}
use Rattle.moving.specs.Moves.{shifted_text, centred_text}

-- the other text reads as a sign with the offsets of the first (document 02, Q-8)
pub record SameOffsets (set : Charset) (text other : List ℕ) : Type 0 where
  pub read : (reading_in set other).number ≡ 0
  pub prefix : (reading_in set other).sign.prefix_offsets ≡ (reading_in set text).sign.prefix_offsets
  pub symbols : (reading_in set other).sign.symbol_offsets ≡ (reading_in set text).sign.symbol_offsets

-- the text that shifting leaves at the start of the memory it is lent, and the text that centring leaves there
abbrev pub shifted_in : Charset → List ℕ → ℤ → ℤ → List ℕ → List ℕ
shifted_in set text dx dy out = left_text out (shifted_text set text dx dy)

abbrev pub centred_in : Charset → List ℕ → List ℕ → List ℕ → List ℕ
centred_in set text sizes out = left_text out (centred_text set text sizes)

pub record MovingLaws (set : Charset) : Type 0 where
  -- a shift by zero gives the same text
  pub still : (text : List ℕ) (m : Meaning) → sign_of set text ≡ done m → shifted_text set text (pos 0) (pos 0) ≡ done text
  -- centring a centred sign gives the same text again
  pub again : (sizes text other : List ℕ) → centred_text set text sizes ≡ done other → centred_text set other sizes ≡ done other
  -- Of two calls, where the first answers 0 and the second reads what it wrote and is lent as much memory or more: the second
  -- answers 0 and leaves the same text.
  pub repeated : (sizes text out : List ℕ) → (written out (centred_text set text sizes)).number ≡ 0 → (room : List ℕ) → length out ≤ length room
      → Leaves room (centred_text set (centred_in set text sizes out) sizes) (centred_in set text sizes out)
  -- Lent the memory as the first left it, the second gives the same answer and changes no byte.
  pub unchanged : (sizes text out : List ℕ) → (written out (centred_text set text sizes)).number ≡ 0
      → Unchanged out (centred_text set text sizes) (centred_text set (centred_in set text sizes out) sizes)
  -- Where a shift or a centring answers 0, the offsets of the text that it wrote are those of the text that it read.
  pub shifted : (text out : List ℕ) (dx dy : ℤ) → (written out (shifted_text set text dx dy)).number ≡ 0 → SameOffsets set text (shifted_in set text dx dy out)
  pub centred : (sizes text out : List ℕ) → (written out (centred_text set text sizes)).number ≡ 0 → SameOffsets set text (centred_in set text sizes out)
