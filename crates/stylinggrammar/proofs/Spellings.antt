-- What a styling is spelled as is accepted and means it; and what an accepted spelling means can be said.
use Prim.Native.Nat.{ℕ, ◌≤◌}
use mathlib.Core.List.{List, [], ◌∷◌, ◌++◌, map}
use mathlib.Core.Path.{◌≡◌, refl, ap, ◌∙◌}
use mathlib.Core.Bool.{Bool, true, false, and-eq-true_iff}
use mathlib.Core.Option.{Option, none, some}
use lib.Dec.{leb}
use lib.ListN.{length}
use native.Mathlib.Omega.{arith}
use borrow.Author.Tests.{le-leb, leb-true}
use Rattle.format.specs.Format.{All, Any, optional, many, every}
use Rattle.format.specs.Numeral.{Range}
use Rattle.format.proofs.Lists.{all_append, every_all, all_every}
use Rattle.charset.specs.Bytes.{byte, after}
use Rattle.stylinggrammar.specs.Styling.{colour, background, Detail, detail, Decimal, decimal, two_digits, symbol_colours, symbol_zoom, Symbols, from_symbols, Spelling, styling}
use Rattle.stylinggrammar.specs.Meaning.{Style, coloured, zoomed, Styling, given, present, hundredths, colour_style, zoom_style, styles_of, meaning, if_any, good_zoom, short_name, short_detail, zooms_good, names_good, styles_few, Colour, ValidDetail, ValidStyle, Zooms, Ordered, Valid, decimal_of, colour_texts, zoom_texts, symbols_of, letter_if, spelled}
use Rattle.stylinggrammar.specs.StylingLaws.{Accepted}
use Rattle.stylinggrammar.proofs.Zooms.{zoom_back, zoom_valid, zoom_good, zoom_range}

-- COLOURS

fill_valid : (f : Option (List ℕ)) → Any Colour f → (optional (after 44 colour)).Valid f
fill_valid none ok = tt
fill_valid (some c) ok = ok.0

detail_valid : (d : Detail) → ValidDetail d → detail.Valid d
detail_valid d ok = (ok.0.0, fill_valid d.1 ok.1)

fill_short : (f : Option (List ℕ)) → Any Colour f → if_any short_name f ≡ true
fill_short none ok = refl
fill_short (some c) ok = le-leb (length c) 24 ok.1

detail_short : (d : Detail) → ValidDetail d → short_detail d ≡ true
detail_short d ok = (and-eq-true_iff (short_name d.0) (if_any short_name d.1)).1 (le-leb (length d.0) 24 ok.0.1, fill_short d.1 ok.1)

fill_sayable : (f : Option (List ℕ)) → (optional (after 44 colour)).Valid f → if_any short_name f ≡ true → Any Colour f
fill_sayable none ok e = tt
fill_sayable (some c) ok e = (ok, leb-true (length c) 24 e)

detail_sayable : (d : Detail) → detail.Valid d → short_detail d ≡ true → ValidDetail d
detail_sayable d ok e =
    let k = (and-eq-true_iff (short_name d.0) (if_any short_name d.1)).0 e in
    ((ok.0, leb-true (length d.0) 24 k.0), fill_sayable d.1 ok.1 k.1)

-- STYLES OF SYMBOLS AS THEY ARE SPELLED

colours_valid : (l : List Style) → All ValidStyle l → (many symbol_colours).Valid (colour_texts l)
colours_valid [] ok = tt
colours_valid (coloured n d ∷ l) ok = (((omega arith, ok.0.0), detail_valid d ok.0.1), colours_valid l ok.1)
colours_valid (zoomed n z ∷ l) ok = colours_valid l ok.1

zooms_valid : (l : List Style) → All ValidStyle l → (many symbol_zoom).Valid (zoom_texts l)
zooms_valid [] ok = tt
zooms_valid (coloured n d ∷ l) ok = zooms_valid l ok.1
zooms_valid (zoomed n z ∷ l) ok = (((omega arith, ok.0.0), zoom_valid z ok.0.1), zooms_valid l ok.1)

colours_short : (l : List Style) → All ValidStyle l → All (λ p. short_detail p.1 ≡ true) (colour_texts l)
colours_short [] ok = tt
colours_short (coloured n d ∷ l) ok = (detail_short d ok.0.1, colours_short l ok.1)
colours_short (zoomed n z ∷ l) ok = colours_short l ok.1

zooms_good_lem : (l : List Style) → All ValidStyle l → All (λ p. good_zoom p.1 ≡ true) (zoom_texts l)
zooms_good_lem [] ok = tt
zooms_good_lem (coloured n d ∷ l) ok = zooms_good_lem l ok.1
zooms_good_lem (zoomed n z ∷ l) ok = (zoom_good z ok.0.1, zooms_good_lem l ok.1)

no_colours : (l : List Style) → Zooms l → colour_texts l ≡ []
no_colours [] z = refl
no_colours (coloured n d ∷ l) z = absurd z
no_colours (zoomed n k ∷ l) z = no_colours l z

zooms_back : (l : List Style) → All ValidStyle l → Zooms l → map zoom_style (zoom_texts l) ≡ l
zooms_back [] ok z = refl
zooms_back (coloured n d ∷ l) ok z = absurd z
zooms_back (zoomed n k ∷ l) ok z = λ i. zoomed n (zoom_back k ok.0.1 i) ∷ zooms_back l ok.1 z i

styles_back : (l : List Style) → All ValidStyle l → Ordered l → map colour_style (colour_texts l) ++ map zoom_style (zoom_texts l) ≡ l
styles_back [] ok o = refl
styles_back (coloured n d ∷ l) ok o = ap (λ k. coloured n d ∷ k) (styles_back l ok.1 o)
styles_back (zoomed n z ∷ l) ok o =
    ap (λ k. map colour_style k ++ (zoomed n (hundredths (decimal_of z)) ∷ map zoom_style (zoom_texts l))) (no_colours l o)
    ∙ λ i. zoomed n (zoom_back z ok.0.1 i) ∷ zooms_back l ok.1 o i

symbols_back : (l : List Style) → All ValidStyle l → Ordered l → styles_of (symbols_of l) ≡ l
symbols_back [] ok o = refl
symbols_back (s ∷ l) ok o = styles_back (s ∷ l) ok o

zoom_part_back : (z : Option ℕ) → Any (Range 1 9999) z → given hundredths (given decimal_of z) ≡ z
zoom_part_back none ok = refl
zoom_part_back (some n) ok = ap some (zoom_back n ok)

colorize_back : (b : Bool) → present (letter_if b) ≡ b
colorize_back true = refl
colorize_back false = refl

-- WHAT IS SPELLED

module _ (s : Styling) (v : Valid s) where
  pub spelled_means : meaning (spelled s) ≡ s
  spelled_means = λ i. record {
    colorize = colorize_back s.colorize i;
    padding = s.padding;
    background = s.background;
    detail = s.detail;
    zoom = zoom_part_back s.zoom v.zoom i;
    symbols = symbols_back s.symbols v.symbols v.ordered i;
  }

  colorize_valid : (b : Bool) → (optional (byte 67)).Valid (letter_if b)
  colorize_valid true = (omega arith, omega arith)
  colorize_valid false = tt

  padding_valid : (p : Option ℕ) → Any (λ n. n ≤ 99) p → (optional (after 80 two_digits)).Valid p
  padding_valid none ok = tt
  padding_valid (some n) ok = (omega arith, ok)

  background_valid : (b : Option (List ℕ)) → Any Colour b → (optional (after 71 background)).Valid b
  background_valid none ok = tt
  background_valid (some c) ok = ok.0

  detail_part_valid : (d : Option Detail) → Any ValidDetail d → (optional (after 68 detail)).Valid d
  detail_part_valid none ok = tt
  detail_part_valid (some d) ok = detail_valid d ok

  zoom_part_valid : (z : Option ℕ) → Any (Range 1 9999) z → (optional (after 90 decimal)).Valid (given decimal_of z)
  zoom_part_valid none ok = tt
  zoom_part_valid (some z) ok = zoom_valid z ok

  symbols_valid : (l : List Style) → All ValidStyle l → from_symbols.Valid (symbols_of l)
  symbols_valid [] ok = tt
  symbols_valid (x ∷ l) ok = (colours_valid (x ∷ l) ok, zooms_valid (x ∷ l) ok)

  pub spelled_valid : styling.Valid (spelled s)
  spelled_valid = (
    colorize_valid s.colorize,
    (
      padding_valid s.padding v.padding,
      (
        background_valid s.background v.background,
        (detail_part_valid s.detail v.detail, (zoom_part_valid s.zoom v.zoom, symbols_valid s.symbols v.symbols)),
      ),
    ),
  )

  zooms_accepted : zooms_good (spelled s) ≡ true
  unfolding zooms_good
  zooms_accepted = (and-eq-true_iff _ _).1 (one s.zoom v.zoom, rest s.symbols v.symbols)
    where
      one : (z : Option ℕ) → Any (Range 1 9999) z → if_any good_zoom (given decimal_of z) ≡ true
      one none ok = refl
      one (some z) ok = zoom_good z ok

      rest : (l : List Style) → All ValidStyle l → if_any (λ s. every (λ p. good_zoom p.1) s.1) (symbols_of l) ≡ true
      rest [] ok = refl
      rest (x ∷ l) ok = all_every (λ p. good_zoom p.1) (zoom_texts (x ∷ l)) (zooms_good_lem (x ∷ l) ok)

  names_accepted : names_good (spelled s) ≡ true
  unfolding names_good
  names_accepted = (and-eq-true_iff _ _).1 (fill_short s.background v.background, (and-eq-true_iff _ _).1 (two s.detail v.detail, rest s.symbols v.symbols))
    where
      two : (d : Option Detail) → Any ValidDetail d → if_any short_detail d ≡ true
      two none ok = refl
      two (some d) ok = detail_short d ok

      rest : (l : List Style) → All ValidStyle l → if_any (λ s. every (λ p. short_detail p.1) s.0) (symbols_of l) ≡ true
      rest [] ok = refl
      rest (x ∷ l) ok = all_every (λ p. short_detail p.1) (colour_texts (x ∷ l)) (colours_short (x ∷ l) ok)

  few_accepted : styles_few (spelled s) ≡ true
  unfolding styles_few
  few_accepted =
      ap (λ (l : List Style). leb (length l) 64) (symbols_back s.symbols v.symbols v.ordered)
      ∙ le-leb (length s.symbols) 64 v.few

  pub spelled_accepted : Accepted (spelled s)
  spelled_accepted = record { zooms = zooms_accepted; names = names_accepted; few = few_accepted }

-- WHAT AN ACCEPTED SPELLING MEANS

colour_styles : (l : List (ℕ × Detail)) → (many symbol_colours).Valid l → All (λ p. short_detail p.1 ≡ true) l → All ValidStyle (map colour_style l)
colour_styles [] ok e = tt
colour_styles (p ∷ l) ok e = ((ok.0.0.1, detail_sayable p.1 ok.0.1 e.0), colour_styles l ok.1 e.1)

zoom_styles : (l : List (ℕ × Decimal)) → (many symbol_zoom).Valid l → All (λ p. good_zoom p.1 ≡ true) l → All ValidStyle (map zoom_style l)
zoom_styles [] ok e = tt
zoom_styles (p ∷ l) ok e = ((ok.0.0.1, zoom_range p.1 e.0), zoom_styles l ok.1 e.1)

zooms_only : (l : List (ℕ × Decimal)) → Zooms (map zoom_style l)
zooms_only [] = tt
zooms_only (p ∷ l) = zooms_only l

zooms_ordered : (l : List (ℕ × Decimal)) → Ordered (map zoom_style l)
zooms_ordered [] = tt
zooms_ordered (p ∷ l) = zooms_only l

lists_ordered : (l : List (ℕ × Detail)) (m : List (ℕ × Decimal)) → Ordered (map colour_style l ++ map zoom_style m)
lists_ordered [] m = zooms_ordered m
lists_ordered (p ∷ l) m = lists_ordered l m

styles_ordered : (o : Option Symbols) → Ordered (styles_of o)
styles_ordered none = tt
styles_ordered (some s) = lists_ordered s.0 s.1

styles_sayable : (o : Option Symbols) → from_symbols.Valid o → if_any (λ s. every (λ p. good_zoom p.1) s.1) o ≡ true
    → if_any (λ s. every (λ p. short_detail p.1) s.0) o ≡ true → All ValidStyle (styles_of o)
styles_sayable none ok e n = tt
styles_sayable (some s) ok e n =
    all_append ValidStyle (map colour_style s.0) (map zoom_style s.1)
    (colour_styles s.0 ok.0 (every_all (λ p. short_detail p.1) s.0 n))
    (zoom_styles s.1 ok.1 (every_all (λ p. good_zoom p.1) s.1 e))

padding_sayable : (p : Option ℕ) → (optional (after 80 two_digits)).Valid p → Any (λ n. n ≤ 99) p
padding_sayable none ok = tt
padding_sayable (some n) ok = ok.1

background_sayable : (o : Option (List ℕ)) → (optional (after 71 background)).Valid o → if_any short_name o ≡ true → Any Colour o
background_sayable none ok e = tt
background_sayable (some c) ok e = (ok, leb-true (length c) 24 e)

detail_part_sayable : (o : Option Detail) → (optional (after 68 detail)).Valid o → if_any short_detail o ≡ true → Any ValidDetail o
detail_part_sayable none ok e = tt
detail_part_sayable (some d) ok e = detail_sayable d ok e

zoom_sayable : (o : Option Decimal) → if_any good_zoom o ≡ true → Any (Range 1 9999) (given hundredths o)
zoom_sayable none e = tt
zoom_sayable (some k) e = zoom_range k e

module _ (t : Spelling) (a : Accepted t) where
  pub zoom_tests : (if_any good_zoom t.zoom ≡ true) × (if_any (λ s. every (λ p. good_zoom p.1) s.1) t.symbols ≡ true)
  unfolding zooms_good
  zoom_tests = (and-eq-true_iff _ _).0 a.zooms

  name_tests : (if_any short_name t.background ≡ true)
      × ((if_any short_detail t.detail ≡ true) × (if_any (λ s. every (λ p. short_detail p.1) s.0) t.symbols ≡ true))
  unfolding names_good
  name_tests = let k = (and-eq-true_iff _ _).0 a.names in (k.0, (and-eq-true_iff _ _).0 k.1)

  few_test : length (styles_of t.symbols) ≤ 64
  unfolding styles_few
  few_test = leb-true (length (styles_of t.symbols)) 64 a.few

  pub meaning_valid : styling.Valid t → Valid (meaning t)
  meaning_valid ok = record {
    padding = padding_sayable t.padding ok.1.0;
    background = background_sayable t.background ok.1.1.0 name_tests.0;
    detail = detail_part_sayable t.detail ok.1.1.1.0 name_tests.1.0;
    zoom = zoom_sayable t.zoom zoom_tests.0;
    symbols = styles_sayable t.symbols ok.1.1.1.1.1 zoom_tests.1 name_tests.1.1;
    ordered = styles_ordered t.symbols;
    few = few_test;
  }
