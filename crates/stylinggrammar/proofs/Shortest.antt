-- No spelling that means the same is shorter than the one that is written, and no other is as short.
use Prim.Native.Nat.{ℕ, suc, ◌+◌, ◌≤◌}
use mathlib.Core.List.{List, [], ◌∷◌, ◌++◌, map}
use mathlib.Core.Path.{◌≡◌, refl, ap, ◌∙◌}
use mathlib.Core.Bool.{true}
use mathlib.Core.Option.{Option, none, some}
use lib.ListN.{length, length-append}
use native.Mathlib.Omega.{arith}
use Rattle.format.specs.Format.{All, optional, many, every}
use Rattle.format.proofs.Lists.{every_all}
use Rattle.charset.specs.Bytes.{byte, after}
use Rattle.stylinggrammar.specs.Styling.{background, Detail, detail, Decimal, decimal, two_digits, symbol_colours, symbol_zoom, Symbols, from_symbols, Spelling, styling}
use Rattle.stylinggrammar.specs.Meaning.{Style, given, present, hundredths, colour_style, zoom_style, styles_of, meaning, if_any, good_zoom, decimal_of, colour_texts, zoom_texts, symbols_of, letter_if, spelled, styling_text}
use Rattle.stylinggrammar.specs.StylingLaws.{Accepted}
use Rattle.stylinggrammar.proofs.Zooms.{zoom_shortest, zoom_unique}
use Rattle.stylinggrammar.proofs.Spellings.{zoom_tests}

-- ZOOMS OF SYMBOLS

abbrev respelled : ℕ × Decimal → ℕ × Decimal
respelled p = (p.0, decimal_of (hundredths p.1))

pub zoom_style_length : (n : ℕ) (z : Decimal) → length (symbol_zoom.write (n, z)) ≡ length (two_digits.write n) + suc (suc (length (decimal.write z)))
zoom_style_length n z =
    let k : length (two_digits.write n ++ (44 ∷ decimal.write z)) ≡ length (two_digits.write n) + suc (length (decimal.write z)) =
    length-append (two_digits.write n) (44 ∷ decimal.write z) in
    omega (arith, k)

module _ (p : ℕ × Decimal) (ok : symbol_zoom.Valid p) (e : good_zoom p.1 ≡ true) where
  abbrev length_again : length (symbol_zoom.write (respelled p)) ≡ length (two_digits.write p.0) + suc (suc (length (decimal.write (decimal_of (hundredths p.1)))))
  length_again = zoom_style_length p.0 (decimal_of (hundredths p.1))

  abbrev length_given : length (symbol_zoom.write p) ≡ length (two_digits.write p.0) + suc (suc (length (decimal.write p.1)))
  length_given = zoom_style_length p.0 p.1

  zoom_style_shortest : length (symbol_zoom.write (respelled p)) ≤ length (symbol_zoom.write p)
  zoom_style_shortest = omega (arith, length_again, length_given, zoom_shortest p.1 ok.1 e)

  zoom_style_unique : length (symbol_zoom.write p) ≤ length (symbol_zoom.write (respelled p)) → respelled p ≡ p
  zoom_style_unique h = λ i. (p.0, zoom_unique p.1 ok.1 e (omega (arith, length_again, length_given, h)) i)

-- what is written for the zooms of a list
abbrev zooms_again : List (ℕ × Decimal) → List ℕ
zooms_again m = (many symbol_zoom).write (zoom_texts (map zoom_style m))

zooms_shortest : (m : List (ℕ × Decimal)) → (many symbol_zoom).Valid m → All (λ p. good_zoom p.1 ≡ true) m
    → length (zooms_again m) ≤ length ((many symbol_zoom).write m)
zooms_shortest [] ok e = omega arith
zooms_shortest (p ∷ m) ok e =
    omega (
      arith,
      length-append (symbol_zoom.write (respelled p)) (zooms_again m),
      length-append (symbol_zoom.write p) ((many symbol_zoom).write m),
      zoom_style_shortest p ok.0 e.0,
      zooms_shortest m ok.1 e.1,
    )

zooms_unique : (m : List (ℕ × Decimal)) → (many symbol_zoom).Valid m → All (λ p. good_zoom p.1 ≡ true) m
    → length ((many symbol_zoom).write m) ≤ length (zooms_again m) → zoom_texts (map zoom_style m) ≡ m
zooms_unique [] ok e h = refl
zooms_unique (p ∷ m) ok e h =
    let a = length-append (symbol_zoom.write (respelled p)) (zooms_again m) in
    let b = length-append (symbol_zoom.write p) ((many symbol_zoom).write m) in
    let c = zoom_style_shortest p ok.0 e.0 in
    let d = zooms_shortest m ok.1 e.1 in
    let u = zoom_style_unique p ok.0 e.0 (omega (arith, a, b, c, d, h)) in
    let v = zooms_unique m ok.1 e.1 (omega (arith, a, b, c, d, h)) in
    λ i. u i ∷ v i

-- STYLES OF SYMBOLS

zooms_colourless : (m : List (ℕ × Decimal)) → colour_texts (map zoom_style m) ≡ []
zooms_colourless [] = refl
zooms_colourless (p ∷ m) = zooms_colourless m

-- colours are spelled in one way
colours_same : (l : List (ℕ × Detail)) (m : List (ℕ × Decimal)) → colour_texts (map colour_style l ++ map zoom_style m) ≡ l
colours_same [] m = zooms_colourless m
colours_same (p ∷ l) m = ap (λ k. p ∷ k) (colours_same l m)

zooms_past : (l : List (ℕ × Detail)) (m : List (ℕ × Decimal)) → zoom_texts (map colour_style l ++ map zoom_style m) ≡ zoom_texts (map zoom_style m)
zooms_past [] m = refl
zooms_past (p ∷ l) m = zooms_past l m

-- where there is a style, there is a second dash
some_styles : (l : List Style) → 1 ≤ length l → symbols_of l ≡ some (colour_texts l, zoom_texts l)
some_styles [] h = absurd (omega arith)
some_styles (x ∷ l) h = refl

symbols_again : (s : Symbols) → 1 ≤ length (styles_of (some s)) → symbols_of (styles_of (some s)) ≡ some (s.0, zoom_texts (map zoom_style s.1))
symbols_again s h = some_styles (styles_of (some s)) h ∙ λ i. some (colours_same s.0 s.1 i, zooms_past s.0 s.1 i)

abbrev pub symbols_text : Option Symbols → List ℕ
symbols_text = from_symbols.write

module _ (s : Symbols) (ok : from_symbols.Valid (some s)) (e : every (λ p. good_zoom p.1) s.1 ≡ true) (h : 1 ≤ length (styles_of (some s))) where
  abbrev again : length (symbols_text (symbols_of (styles_of (some s)))) ≡ suc (length ((many symbol_colours).write s.0 ++ zooms_again s.1))
  again = ap (λ o. length (symbols_text o)) (symbols_again s h)

  abbrev sum_again : length ((many symbol_colours).write s.0 ++ zooms_again s.1) ≡ length ((many symbol_colours).write s.0) + length (zooms_again s.1)
  sum_again = length-append ((many symbol_colours).write s.0) (zooms_again s.1)

  abbrev sum_given : length ((many symbol_colours).write s.0 ++ (many symbol_zoom).write s.1) ≡ length ((many symbol_colours).write s.0) + length ((many symbol_zoom).write s.1)
  sum_given = length-append ((many symbol_colours).write s.0) ((many symbol_zoom).write s.1)

  abbrev all_good : All (λ p. good_zoom p.1 ≡ true) s.1
  all_good = every_all (λ p. good_zoom p.1) s.1 e

  lists_shortest : length (symbols_text (symbols_of (styles_of (some s)))) ≤ length (symbols_text (some s))
  lists_shortest = omega (arith, again, sum_again, sum_given, zooms_shortest s.1 ok.1 all_good)

  lists_unique : length (symbols_text (some s)) ≤ length (symbols_text (symbols_of (styles_of (some s)))) → symbols_of (styles_of (some s)) ≡ some s
  lists_unique k =
      let z = zooms_unique s.1 ok.1 all_good (omega (arith, again, sum_again, sum_given, k)) in
      symbols_again s h ∙ λ i. some (s.0, z i)

symbols_shortest : (o : Option Symbols) → from_symbols.Valid o → if_any (λ s. every (λ p. good_zoom p.1) s.1) o ≡ true
    → length (symbols_text (symbols_of (styles_of o))) ≤ length (symbols_text o)
symbols_shortest none ok e = omega arith
symbols_shortest (some ([], [])) ok e = omega arith
symbols_shortest (some ([], p ∷ m)) ok e = lists_shortest ([], p ∷ m) ok e (omega arith)
symbols_shortest (some (p ∷ l, m)) ok e = lists_shortest (p ∷ l, m) ok e (omega arith)

symbols_unique : (o : Option Symbols) → from_symbols.Valid o → if_any (λ s. every (λ p. good_zoom p.1) s.1) o ≡ true
    → length (symbols_text o) ≤ length (symbols_text (symbols_of (styles_of o))) → symbols_of (styles_of o) ≡ o
symbols_unique none ok e h = refl
symbols_unique (some ([], [])) ok e h = absurd (omega arith)
symbols_unique (some ([], p ∷ m)) ok e h = lists_unique ([], p ∷ m) ok e (omega arith) h
symbols_unique (some (p ∷ l, m)) ok e h = lists_unique (p ∷ l, m) ok e (omega arith) h

-- THE ZOOM OF THE WHOLE, AND COLORIZE

abbrev pub zoom_text : Option Decimal → List ℕ
zoom_text = (optional (after 90 decimal)).write

zoom_part_shortest : (o : Option Decimal) → (optional (after 90 decimal)).Valid o → if_any good_zoom o ≡ true
    → length (zoom_text (given decimal_of (given hundredths o))) ≤ length (zoom_text o)
zoom_part_shortest none ok e = omega arith
zoom_part_shortest (some z) ok e = omega (arith, zoom_shortest z ok e)

zoom_part_unique : (o : Option Decimal) → (optional (after 90 decimal)).Valid o → if_any good_zoom o ≡ true
    → length (zoom_text o) ≤ length (zoom_text (given decimal_of (given hundredths o))) → given decimal_of (given hundredths o) ≡ o
zoom_part_unique none ok e h = refl
zoom_part_unique (some z) ok e h =
    let k : suc (length (decimal.write z)) ≤ suc (length (decimal.write (decimal_of (hundredths z)))) = h in
    ap some (zoom_unique z ok e (omega (arith, k)))

colorize_same : (c : Option ℕ) → (optional (byte 67)).Valid c → letter_if (present c) ≡ c
colorize_same none ok = refl
colorize_same (some b) ok = ap some (omega (arith, ok.0, ok.1))

-- THE WHOLE

-- the bytes of colorize, padding, background and detail colours, which are spelled in one way
abbrev pub lead : Option ℕ → Spelling → ℕ
lead c t =
    length ((optional (byte 67)).write c)
    + (length ((optional (after 80 two_digits)).write t.padding) + (length ((optional (after 71 background)).write t.background) + length ((optional (after 68 detail)).write t.detail)))

six : (a b c d e f : List ℕ) → length (a ++ (b ++ (c ++ (d ++ (e ++ f))))) ≡ (length a + (length b + (length c + length d))) + (length e + length f)
six a b c d e f =
    omega (
      arith,
      length-append a (b ++ (c ++ (d ++ (e ++ f)))),
      length-append b (c ++ (d ++ (e ++ f))),
      length-append c (d ++ (e ++ f)),
      length-append d (e ++ f),
      length-append e f,
    )

pub styling_length : (t : Spelling) → length (styling.write t) ≡ suc (lead t.colorize t + (length (zoom_text t.zoom) + length (symbols_text t.symbols)))
styling_length t =
    ap suc (six ((optional (byte 67)).write t.colorize) ((optional (after 80 two_digits)).write t.padding) ((optional (after 71 background)).write t.background)
    ((optional (after 68 detail)).write t.detail) (zoom_text t.zoom) (symbols_text t.symbols))

module _ (t : Spelling) (ok : styling.Valid t) (a : Accepted t) where
  abbrev back : Spelling
  back = spelled (meaning t)

  same_lead : lead (letter_if (present t.colorize)) t ≡ lead t.colorize t
  same_lead = ap (λ c. lead c t) (colorize_same t.colorize ok.0)

  abbrev zoom_least : length (zoom_text back.zoom) ≤ length (zoom_text t.zoom)
  zoom_least = zoom_part_shortest t.zoom ok.1.1.1.1.0 (zoom_tests t a).0

  abbrev symbols_least : length (symbols_text back.symbols) ≤ length (symbols_text t.symbols)
  symbols_least = symbols_shortest t.symbols ok.1.1.1.1.1 (zoom_tests t a).1

  pub meaning_shortest : length (styling_text (meaning t)) ≤ length (styling.write t)
  meaning_shortest = omega (arith, styling_length back, styling_length t, same_lead, zoom_least, symbols_least)

  pub spelled_same : length (styling.write t) ≤ length (styling_text (meaning t)) → spelled (meaning t) ≡ t
  spelled_same h =
      let x = styling_length back in
      let y = styling_length t in
      let z = zoom_part_unique t.zoom ok.1.1.1.1.0 (zoom_tests t a).0 (omega (arith, x, y, same_lead, zoom_least, symbols_least, h)) in
      let s = symbols_unique t.symbols ok.1.1.1.1.1 (zoom_tests t a).1 (omega (arith, x, y, same_lead, zoom_least, symbols_least, h)) in
      λ i. record {
        colorize = colorize_same t.colorize ok.0 i;
        padding = t.padding;
        background = t.background;
        detail = t.detail;
        zoom = z i;
        symbols = s i;
      }
