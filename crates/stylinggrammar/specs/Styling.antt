-- Document 001, 2.5: the styling string, as far as document 02, Q-1, takes it: without what names classes and IDs, and with plain
-- numbers for zooms.
use Rattle.std.specs.Prelude.{ℕ, List, [], ◌∷◌, Bool, ◌&&◌, ◌||◌, eqb, leb, length}
use Prim.Native.Char.{code}
use Rattle.std.proofs.Math.Option.{Option}
use Rattle.format.specs.Format.{Format, sequence, mapped, optional, many, every}
use Rattle.charset.specs.Bytes.{byte, digit, digits, after}
use Rattle.stylinggrammar.specs.Word.{word}

-- a format and then a fixed byte
abbrev pub before : {A : Type 0} → ℕ → Format A → Format A
before b f = mapped (sequence f λ a. byte b) (λ p. p.0) (λ v. (v, b)) f.Valid

-- A COLOUR: a name in letters, or 3 or 6 hexadecimal digits, of either case. It is kept as its bytes.

abbrev pub among : ℕ → ℕ → ℕ → Bool
among lo hi b = leb lo b && leb b hi

-- A to Z are bytes 65 to 90, a to z 97 to 122
unfoldable pub letter : ℕ → Bool
letter b = among 65 90 b || among 97 122 b

-- 0 to 9 are bytes 48 to 57, A to F 65 to 70, a to f 97 to 102
unfoldable pub hexadecimal : ℕ → Bool
hexadecimal b = among 48 57 b || (among 65 70 b || among 97 102 b)

unfoldable pub is_colour : List ℕ → Bool
is_colour c = (every letter c && leb 1 (length c)) || (every hexadecimal c && (eqb (length c) 3 || eqb (length c) 6))

unfoldable pub begins_colour : List ℕ → Bool
begins_colour c = every letter c || (every hexadecimal c && leb (length c) 6)

abbrev pub colour : Format (List ℕ)
colour = word begins_colour is_colour

-- between underscores: a background colour; and a line colour with an optional fill colour
abbrev pub background : Format (List ℕ)
background = after (code "_") (before (code "_") colour)

abbrev pub Detail : Type 0
Detail = List ℕ × Option (List ℕ)

abbrev pub line_and_fill : Format Detail
line_and_fill = sequence colour λ line. optional (after (code ",") colour)

abbrev pub detail : Format Detail
detail = after (code "_") (before (code "_") line_and_fill)

-- A ZOOM: digits, and optionally a point and digits. It is kept as it is spelled.
abbrev pub Figures : Type 0
Figures = ℕ × List ℕ

abbrev pub figures : Format Figures
figures = sequence (digit 0 9) λ d. many (digit 0 9)

abbrev pub Decimal : Type 0
Decimal = Figures × Option Figures

abbrev pub decimal : Format Decimal
decimal = sequence figures λ whole. optional (after (code ".") figures)

-- STYLES OF SYMBOLS: the symbol's number in two digits, and its colours or its zoom. All colours stand before all zooms.

abbrev pub two_digits : Format ℕ
two_digits = digits (10 ∷ []) 0 99

abbrev pub symbol_colours : Format (ℕ × Detail)
symbol_colours = after (code "D") (sequence two_digits λ n. detail)

abbrev pub symbol_zoom : Format (ℕ × Decimal)
symbol_zoom = after (code "Z") (sequence two_digits λ n. after (code ",") decimal)

abbrev pub Symbols : Type 0
Symbols = List (ℕ × Detail) × List (ℕ × Decimal)

abbrev pub symbols : Format Symbols
symbols = sequence (many symbol_colours) λ l. many symbol_zoom

-- THE STYLING STRING: a dash, colorize, padding, background, detail colours, zoom, and after a second dash the symbols.
-- Each may be absent.

abbrev pub from_symbols : Format (Option Symbols)
from_symbols = optional (after (code "-") symbols)

abbrev pub from_zoom : Format (Option Decimal × Option Symbols)
from_zoom = sequence (optional (after (code "Z") decimal)) λ z. from_symbols

abbrev pub from_detail : Format (Option Detail × (Option Decimal × Option Symbols))
from_detail = sequence (optional (after (code "D") detail)) λ d. from_zoom

abbrev pub from_background : Format (Option (List ℕ) × (Option Detail × (Option Decimal × Option Symbols)))
from_background = sequence (optional (after (code "G") background)) λ g. from_detail

abbrev pub from_padding : Format (Option ℕ × (Option (List ℕ) × (Option Detail × (Option Decimal × Option Symbols))))
from_padding = sequence (optional (after (code "P") two_digits)) λ p. from_background

abbrev pub Parts : Type 0
Parts = Option ℕ × (Option ℕ × (Option (List ℕ) × (Option Detail × (Option Decimal × Option Symbols))))

abbrev pub parts : Format Parts
parts = sequence (optional (byte (code "C"))) λ c. from_padding

-- a styling as it is spelled
pub record Spelling : Type 0 where
  pub colorize : Option ℕ
  pub padding : Option ℕ
  pub background : Option (List ℕ)
  pub detail : Option Detail
  pub zoom : Option Decimal
  pub symbols : Option Symbols

abbrev pub to_spelling : Parts → Spelling
to_spelling p = record {
  colorize = p.0;
  padding = p.1.0;
  background = p.1.1.0;
  detail = p.1.1.1.0;
  zoom = p.1.1.1.1.0;
  symbols = p.1.1.1.1.1;
}

abbrev pub of_spelling : Spelling → Parts
of_spelling t = (t.colorize, (t.padding, (t.background, (t.detail, (t.zoom, t.symbols)))))

abbrev pub styling : Format Spelling
styling = after (code "-") (mapped parts to_spelling of_spelling (λ t. parts.Valid (of_spelling t)))
