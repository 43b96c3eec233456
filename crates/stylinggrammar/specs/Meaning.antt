-- Document 02, Q-1: what a styling string means, which are refused as 17, 18 or 19, and the shortest spelling of a styling.
use Rattle.std.specs.Prelude.{ℕ, ◌+◌, ◌*◌, ◌/◌, ◌%◌, ◌≤◌, ◌≡◌, List, [], ◌∷◌, ◌++◌, map, Bool, true, false, ◌&&◌, eqb, ltb, leb, length}
use Prim.Native.Char.{code}
use Rattle.std.proofs.Math.Option.{Option, none, some}
use Rattle.format.specs.Format.{All, Any, choose, every}
use Rattle.format.specs.Numeral.{Range}
use Rattle.stylinggrammar.specs.Styling.{among, is_colour, Detail, Figures, Decimal, Symbols, Spelling, styling}

-- the colours or the zoom of the symbol with a number
pub data Style : Type 0 where
  coloured : ℕ → Detail → Style
  zoomed : ℕ → ℕ → Style

-- A zoom is a whole number of hundredths. What is absent is not the same as its default.
pub record Styling : Type 0 where
  pub colorize : Bool
  pub padding : Option ℕ
  pub background : Option (List ℕ)
  pub detail : Option Detail
  pub zoom : Option ℕ
  pub symbols : List Style

-- WHAT IS MEANT

abbrev pub given : {A B : Type 0} → (A → B) → Option A → Option B
given f none = none
given f (some a) = some (f a)

abbrev pub present : {A : Type 0} → Option A → Bool
present none = false
present (some a) = true

-- the number that goes on with these digits
abbrev pub onward : ℕ → List ℕ → ℕ
onward n [] = n
onward n (d ∷ l) = onward (n * 10 + d) l

abbrev pub wholes : Decimal → ℕ
wholes z = onward z.0.0 z.0.1

-- the hundredths of the first two decimals
abbrev pub cents : Option Figures → ℕ
cents none = 0
cents (some (a, [])) = a * 10
cents (some (a, b ∷ l)) = a * 10 + b

abbrev pub hundredths : Decimal → ℕ
hundredths z = wholes z * 100 + cents z.1

abbrev pub colour_style : ℕ × Detail → Style
colour_style p = coloured p.0 p.1

abbrev pub zoom_style : ℕ × Decimal → Style
zoom_style p = zoomed p.0 (hundredths p.1)

abbrev pub styles_of : Option Symbols → List Style
styles_of none = []
styles_of (some s) = map colour_style s.0 ++ map zoom_style s.1

abbrev pub meaning : Spelling → Styling
meaning t = record {
  colorize = present t.colorize;
  padding = t.padding;
  background = t.background;
  detail = t.detail;
  zoom = given hundredths t.zoom;
  symbols = styles_of t.symbols;
}

-- WHAT IS REFUSED

abbrev pub if_any : {A : Type 0} → (A → Bool) → Option A → Bool
if_any test none = true
if_any test (some a) = test a

-- at most two decimals as spelled, and 0.01 to 99.99
abbrev pub few_decimals : Option Figures → Bool
few_decimals none = true
few_decimals (some (a, l)) = leb (length l) 1

abbrev pub good_zoom : Decimal → Bool
good_zoom z = few_decimals z.1 && among 1 9999 (hundredths z)

-- at most 24 bytes, which a colour in hexadecimal digits never exceeds
abbrev pub short_name : List ℕ → Bool
short_name c = leb (length c) 24

abbrev pub short_detail : Detail → Bool
short_detail d = short_name d.0 && if_any short_name d.1

unfoldable pub zooms_good : Spelling → Bool
zooms_good t = if_any good_zoom t.zoom && if_any (λ s. every (λ p. good_zoom p.1) s.1) t.symbols

unfoldable pub names_good : Spelling → Bool
names_good t = if_any short_name t.background && (if_any short_detail t.detail && if_any (λ s. every (λ p. short_detail p.1) s.0) t.symbols)

unfoldable pub styles_few : Spelling → Bool
styles_few t = leb (length (styles_of t.symbols)) 64

-- WHAT CAN BE SAID

abbrev pub Colour : List ℕ → Type 0
Colour c = (is_colour c ≡ true) × (length c ≤ 24)

abbrev pub ValidDetail : Detail → Type 0
ValidDetail d = Colour d.0 × Any Colour d.1

abbrev pub ValidStyle : Style → Type 0
ValidStyle (coloured n d) = (n ≤ 99) × ValidDetail d
ValidStyle (zoomed n z) = (n ≤ 99) × Range 1 9999 z

-- all colours stand before all zooms
abbrev pub Zooms : List Style → Type 0
Zooms [] = Unit
Zooms (coloured n d ∷ l) = ⊥
Zooms (zoomed n z ∷ l) = Zooms l

abbrev pub Ordered : List Style → Type 0
Ordered [] = Unit
Ordered (coloured n d ∷ l) = Ordered l
Ordered (zoomed n z ∷ l) = Zooms l

pub record Valid (s : Styling) : Type 0 where
  pub padding : Any (λ n. n ≤ 99) s.padding
  pub background : Any Colour s.background
  pub detail : Any ValidDetail s.detail
  pub zoom : Any (Range 1 9999) s.zoom
  pub symbols : All ValidStyle s.symbols
  pub ordered : Ordered s.symbols
  pub few : length s.symbols ≤ 64

-- HOW IT IS WRITTEN

-- the fewest digits: one or two before the point, and after it none, one or two
abbrev pub whole_figures : ℕ → Figures
whole_figures w = choose (ltb w 10) (w, []) (w / 10, w % 10 ∷ [])

abbrev pub cent_figures : ℕ → Option Figures
cent_figures c = choose (eqb c 0) none (choose (eqb (c % 10) 0) (some (c / 10, [])) (some (c / 10, c % 10 ∷ [])))

abbrev pub decimal_of : ℕ → Decimal
decimal_of n = (whole_figures (n / 100), cent_figures (n % 100))

abbrev pub colour_texts : List Style → List (ℕ × Detail)
colour_texts [] = []
colour_texts (coloured n d ∷ l) = (n, d) ∷ colour_texts l
colour_texts (zoomed n z ∷ l) = colour_texts l

abbrev pub zoom_texts : List Style → List (ℕ × Decimal)
zoom_texts [] = []
zoom_texts (coloured n d ∷ l) = zoom_texts l
zoom_texts (zoomed n z ∷ l) = (n, decimal_of z) ∷ zoom_texts l

-- no second dash without symbols
abbrev pub symbols_of : List Style → Option Symbols
symbols_of [] = none
symbols_of (s ∷ l) = some (colour_texts (s ∷ l), zoom_texts (s ∷ l))

abbrev pub letter_if : Bool → Option ℕ
letter_if true = some (code "C")
letter_if false = none

abbrev pub spelled : Styling → Spelling
spelled s = record {
  colorize = letter_if s.colorize;
  padding = s.padding;
  background = s.background;
  detail = s.detail;
  zoom = given decimal_of s.zoom;
  symbols = symbols_of s.symbols;
}

abbrev pub styling_text : Styling → List ℕ
styling_text s = styling.write (spelled s)
