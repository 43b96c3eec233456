-- The longest text of a styling.
use Prim.Native.Nat.{ℕ, zero, suc, ◌+◌, ◌*◌, ◌/◌, ◌%◌, ◌≤◌}
use mathlib.Core.List.{List, [], ◌∷◌, ◌++◌}
use mathlib.Core.Path.{refl}
use mathlib.Core.Bool.{Bool, true, false}
use mathlib.Core.Option.{Option, none, some}
use lib.Dec.{eqb, ltb}
use lib.ListN.{length, replicate, length-append, length-replicate}
use native.Mathlib.Omega.{arith}
use Rattle.format.specs.Format.{All, Any, optional, many}
use Rattle.charset.specs.Bytes.{byte, after}
use Rattle.charset.proofs.Coding.{by_test}
use Rattle.stylinggrammar.specs.Styling.{letter, hexadecimal, is_colour, colour, background, Detail, detail, Figures, decimal, two_digits, symbol_colours, symbol_zoom}
use Rattle.stylinggrammar.specs.Meaning.{Style, coloured, zoomed, Styling, given, Colour, ValidDetail, ValidStyle, Ordered, Valid, whole_figures, cent_figures, decimal_of, colour_texts, zoom_texts, symbols_of, letter_if, spelled, styling_text}
use Rattle.stylinggrammar.specs.StylingLaws.{LongestStyling}
use Rattle.stylinggrammar.proofs.Zooms.{point, zoom_length}
use Rattle.stylinggrammar.proofs.Shortest.{zoom_text, symbols_text, zoom_style_length, styling_length}

-- ZOOMS

whole_most : (w : ℕ) → suc (length (whole_figures w).1) ≤ 2
whole_most w = by_test (λ (f : Figures). suc (length f.1) ≤ 2) (ltb w 10) (λ x. omega arith) λ x. omega arith

cent_most : (c : ℕ) → length (point (cent_figures c)) ≤ 3
cent_most c =
    by_test (λ o. length (point o) ≤ 3) (eqb c 0) (λ x. omega arith) λ x.
    by_test (λ o. length (point o) ≤ 3) (eqb (c % 10) 0) (λ y. omega arith) λ y. omega arith

decimal_most : (n : ℕ) → length (decimal.write (decimal_of n)) ≤ 5
decimal_most n = omega (arith, zoom_length (whole_figures (n / 100)) (cent_figures (n % 100)), whole_most (n / 100), cent_most (n % 100))

zoom_most : (z : Option ℕ) → length (zoom_text (given decimal_of z)) ≤ 6
zoom_most none = omega arith
zoom_most (some n) = omega (arith, decimal_most n)

-- COLOURS

background_most : (c : Option (List ℕ)) → Any Colour c → length ((optional (after 71 background)).write c) ≤ 27
background_most none ok = omega arith
background_most (some c) ok = omega (arith, length-append c (95 ∷ []), ok.1)

fill_most : (f : Option (List ℕ)) → Any Colour f → length ((optional (after 44 colour)).write f) ≤ 25
fill_most none ok = omega arith
fill_most (some c) ok = omega (arith, ok.1)

detail_most : (d : Detail) → ValidDetail d → length (detail.write d) ≤ 51
detail_most d ok =
    let f = (optional (after 44 colour)).write d.1 in
    omega (arith, length-append (d.0 ++ f) (95 ∷ []), length-append d.0 f, ok.0.1, fill_most d.1 ok.1)

details_most : (d : Option Detail) → Any ValidDetail d → length ((optional (after 68 detail)).write d) ≤ 52
details_most none ok = omega arith
details_most (some d) ok = omega (arith, detail_most d ok)

-- SYMBOLS

colours_most : (n : ℕ) (d : Detail) → ValidDetail d → length (symbol_colours.write (n, d)) ≤ 54
colours_most n d ok = omega (arith, length-append (two_digits.write n) (detail.write d), detail_most d ok)

zooms_most : (n z : ℕ) → length (symbol_zoom.write (n, decimal_of z)) ≤ 54
zooms_most n z = omega (arith, zoom_style_length n (decimal_of z), decimal_most z)

styles_most : (l : List Style) → All ValidStyle l → length ((many symbol_colours).write (colour_texts l)) + length ((many symbol_zoom).write (zoom_texts l)) ≤ 54 * length l
styles_most [] ok = omega arith
styles_most (coloured n d ∷ l) ok =
    let k = styles_most l ok.1 in
    omega (arith, length-append (symbol_colours.write (n, d)) ((many symbol_colours).write (colour_texts l)), colours_most n d ok.0.1)
styles_most (zoomed n z ∷ l) ok =
    let k = styles_most l ok.1 in
    omega (arith, length-append (symbol_zoom.write (n, decimal_of z)) ((many symbol_zoom).write (zoom_texts l)), zooms_most n z)

symbols_most : (l : List Style) → All ValidStyle l → length l ≤ 64 → length (symbols_text (symbols_of l)) ≤ 3457
symbols_most [] ok few = omega arith
symbols_most (s ∷ l) ok few =
    let c = (many symbol_colours).write (colour_texts (s ∷ l)) in
    let z = (many symbol_zoom).write (zoom_texts (s ∷ l)) in
    omega (arith, length-append c z, styles_most (s ∷ l) ok)

-- ALL TOGETHER

colorize_most : (c : Bool) → length ((optional (byte 67)).write (letter_if c)) ≤ 1
colorize_most true = omega arith
colorize_most false = omega arith

padding_most : (p : Option ℕ) → length ((optional (after 80 two_digits)).write p) ≤ 3
padding_most none = omega arith
padding_most (some n) = omega arith

most : (s : Styling) → Valid s → length (styling_text s) ≤ 3547
most s v =
    omega (
      arith,
      styling_length (spelled s),
      colorize_most s.colorize,
      padding_most s.padding,
      background_most s.background v.background,
      details_most s.detail v.detail,
      zoom_most s.zoom,
      symbols_most s.symbols v.symbols v.few,
    )

-- ONE THAT IS AS LONG

abbrev name : List ℕ
name = replicate 24 97

abbrev both : Detail
both = (name, some name)

abbrev styles : ℕ → List Style
styles n = replicate n (coloured 99 both)

name_is : Colour name
unfolding is_colour letter hexadecimal
name_is = (refl, omega (arith, length-replicate {A = ℕ} 24 97))

styles_valid : (n : ℕ) → All ValidStyle (styles n)
styles_valid zero = tt
styles_valid (suc n) = ((omega arith, (name_is, name_is)), styles_valid n)

styles_ordered : (n : ℕ) → Ordered (styles n)
styles_ordered zero = tt
styles_ordered (suc n) = styles_ordered n

pub longest_styling : LongestStyling
longest_styling = record {
  most = most;
  styling = record { colorize = true; padding = some 99; background = some name; detail = some both; zoom = some 9999; symbols = styles 64 };
  valid = record {
    padding = omega arith;
    background = name_is;
    detail = (name_is, name_is);
    zoom = (omega arith, omega arith);
    symbols = styles_valid 64;
    ordered = styles_ordered 64;
    few = omega (arith, length-replicate 64 (coloured 99 both));
  };
  size = refl;
}
