-- The text of a styling after its first dash, piece by piece.
use Rattle.std.specs.Prelude.{Option as Given, Some, None, ℕ, List, [], ◌∷◌}
use Prim.Native.Char.{code}
use Rattle.format.specs.Format.{optional, many}
use Rattle.charset.specs.Bytes.{byte, after}
use Rattle.stylinggrammar.specs.Styling.{background, detail, figures, decimal, two_digits, symbol_colours, symbol_zoom, from_symbols}
use Rattle.stylinggrammar.specs.Meaning.{Style, coloured, zoomed, Styling, given, cent_figures, decimal_of, letter_if, colour_texts, zoom_texts, symbols_of}

-- the decimals of a number of hundredths, with their point
abbrev pub cents_text : ℕ → List ℕ
cents_text n = (optional (after (code ".") figures)).write (cent_figures n)

abbrev pub colorize_text : Styling → List ℕ
colorize_text s = (optional (byte (code "C"))).write (letter_if s.colorize)

abbrev pub padding_text : Styling → List ℕ
padding_text s = (optional (after (code "P") two_digits)).write s.padding

abbrev pub background_text : Styling → List ℕ
background_text s = (optional (after (code "G") background)).write s.background

abbrev pub detail_text : Styling → List ℕ
detail_text s = (optional (after (code "D") detail)).write s.detail

abbrev pub zoom_text : Styling → List ℕ
zoom_text s = (optional (after (code "Z") decimal)).write (given decimal_of s.zoom)

abbrev pub symbols_text : Styling → List ℕ
symbols_text s = from_symbols.write (symbols_of s.symbols)

-- a piece after its letter, where it is given
abbrev pub given_text : {A : Type 0} → ℕ → (A → List ℕ) → Given A → List ℕ
given_text letter text None = []
given_text letter text (Some a) = letter ∷ text a

-- what each style of a symbol comes to among the colours and among the zooms, and how many bytes are room for that
abbrev pub coloured_text : Style → List ℕ
coloured_text (coloured n d) = symbol_colours.write (n, d)
coloured_text (zoomed n z) = []

abbrev pub coloured_room : Style → ℕ
coloured_room (coloured n d) = 54
coloured_room (zoomed n z) = 0

abbrev pub zoomed_text : Style → List ℕ
zoomed_text (coloured n d) = []
zoomed_text (zoomed n z) = symbol_zoom.write (n, decimal_of z)

abbrev pub zoomed_room : Style → ℕ
zoomed_room (coloured n d) = 0
zoomed_room (zoomed n z) = 9

-- the colours and the zooms of symbols, each kind by itself
abbrev pub colours_text : List Style → List ℕ
colours_text l = (many symbol_colours).write (colour_texts l)

abbrev pub zooms_text : List Style → List ℕ
zooms_text l = (many symbol_zoom).write (zoom_texts l)
