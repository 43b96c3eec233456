-- Filled part by part, zeros become the record of what is meant.
use Prim.Native.Nat.{ℕ, suc, ◌+◌, ◌-◌, ◌*◌, ◌≤◌, ◌<◌, min}
use native.Mathlib.Nat.{zero-add}
use mathlib.Core.List.{List, [], ◌∷◌, ◌++◌, map, append_assoc, append-nil}
use mathlib.Core.Option.{Option, none, some}
use mathlib.Core.Path.{◌≡◌, refl, sym, ap, ◌∙◌}
use lib.ListN.{length, set, length-append, length-map}
use lib.Seq.{sets, take_all, set_at}
use native.Mathlib.Omega.{arith}
use Rattle.format.specs.Format.{All, Any}
use Rattle.format.specs.Numeral.{Range}
use Rattle.format.proofs.Lists.{all_parts}
use Rattle.stylinggrammar.specs.Styling.{Detail, Decimal, Symbols, Spelling, styling}
use Rattle.stylinggrammar.specs.Meaning.{Style, given, present, cents, hundredths, colour_style, zoom_style, styles_of, meaning, Colour, ValidDetail, ValidStyle}
use Rattle.stylinggrammar.specs.StylingLaws.{Accepted}
use Rattle.stylinggrammar.proofs.Spellings.{meaning_valid}
use Rattle.token.specs.Padded.{padded, zeros}
use Rattle.token.proofs.PaddedLists.{padded_length, padded_none, padded_zero, padded_first, padded_append, zeros_append, sets_padded}
use Rattle.stylinggrammar.specs.Record.{record_size, colorize_number, padding_number, zoom_number, colour_numbers, detail_count, detail_numbers, style_numbers, styles_numbers, record_of, row_at}
use Rattle.stylinggrammar.specs.Filling.{put_maybe, put_colour, put_detail, zoom_word, row_of, put_colours, put_zoom, put_rows, put_symbols, put_styling}
use Rattle.stylinggrammar.proofs.Stores.{set_after, sets_after, sets_before, sets_cons}
use Rattle.stylinggrammar.proofs.RecordBlocks.{counts, blocks, record_blocks, colour_size, style_size, styles_size, before_rows, before_rows_size, style_none, zeros_blocks}

-- A COLOUR

-- bytes into a block of zeros, after its first number
bytes_put : (c after : List ℕ) → length c ≤ 24 → sets (colour_numbers none ++ after) 1 c ≡ 0 ∷ (padded 24 c ++ after)
bytes_put c after h =
    sets_before (colour_numbers none) after 1 c (omega (arith, padded_length 25 []))
    ∙ ap (λ l. sets l 1 c ++ after) (padded_zero 24)
    ∙ ap (λ l. l ++ after) (sets_cons 0 (padded 24 []) 0 c ∙ ap (λ l. 0 ∷ l) (sets_padded 24 c []))

colour_put : (before : List ℕ) (n : ℕ) → length before ≡ n → (c after : List ℕ) → length c ≤ 24
    → put_colour n c (before ++ (colour_numbers none ++ after)) ≡ before ++ (colour_numbers (some c) ++ after)
unfolding put_colour
colour_put before n e c after h =
    let size : min 25 (length c) ≡ length c = omega arith in
    (λ i. set (sets (before ++ (colour_numbers none ++ after)) (n + 1) (take_all 24 c h i)) n (size i))
    ∙ ap (λ l. set l n (length c)) (sets_after before (colour_numbers none ++ after) n 1 c e ∙ ap (λ l. before ++ l) (bytes_put c after h))
    ∙ set_at before 0 (padded 24 c ++ after) (length c) n e
    ∙ ap (λ l. before ++ (l ++ after)) (sym (padded_first 24 (length c) c))

fill_put : (before : List ℕ) (n : ℕ) → length before ≡ n → (f : Option (List ℕ)) (after : List ℕ) → Any Colour f
    → put_maybe (put_colour n) f (before ++ (colour_numbers none ++ after)) ≡ before ++ (colour_numbers f ++ after)
fill_put before n e none after ok = refl
fill_put before n e (some c) after ok = colour_put before n e c after ok.1

detail_put : (before : List ℕ) (n : ℕ) → length before ≡ n → (d : Detail) (after : List ℕ) → ValidDetail d
    → put_detail n d (before ++ (detail_numbers none ++ after)) ≡ before ++ (detail_numbers (some d) ++ after)
detail_put before n e d after ok =
    let line = colour_numbers (some d.0) in
    let place : length (before ++ line) ≡ n + 25 = omega (arith, length-append before line, colour_size (some d.0)) in
    ap (put_detail n d) (ap (λ l. before ++ l) (append_assoc (colour_numbers none) (colour_numbers none) after))
    ∙ ap (put_maybe (put_colour (n + 25)) d.1) (colour_put before n e d.0 (colour_numbers none ++ after) ok.0.1 ∙ sym (append_assoc before line (colour_numbers none ++ after)))
    ∙ fill_put (before ++ line) (n + 25) place d.1 after ok.1
    ∙ append_assoc before line (colour_numbers d.1 ++ after)
    ∙ ap (λ l. before ++ l) (sym (append_assoc line (colour_numbers d.1) after))

-- A ZOOM

-- a zoom that can be said is below 100
word_zoom : (z : Decimal) → Range 1 9999 (hundredths z) → zoom_word z ≡ hundredths z
word_zoom z ok = ap (λ w. w * 100 + cents z.1) (omega (arith, ok.1))

-- ROWS OF SYMBOL STYLES

module _ (before : List ℕ) (k : ℕ) (few : k < 64) (e : length before ≡ row_at k) (after : List ℕ) where
  row : row_of k ≡ row_at k
  row = omega arith

  colours_put : (a : ℕ × Detail) → ValidStyle (colour_style a) → put_colours k a (before ++ (padded 53 [] ++ after)) ≡ before ++ (style_numbers (colour_style a) ++ after)
  colours_put a ok =
      let at = row_at k in
      let l = detail_numbers none ++ after in
      let front : List ℕ = 1 ∷ a.0 ∷ 0 ∷ [] in
      let place : length (before ++ front) ≡ at + 3 = omega (arith, length-append before front) in
      (λ i. put_detail (row i + 3) a.1 (set (set (before ++ (style_none i ++ after)) (row i) 1) (row i + 1) a.0))
      ∙ ap (λ o. put_detail (at + 3) a.1 (set o (at + 1) a.0)) (set_at before 0 (0 ∷ 0 ∷ l) 1 at e)
      ∙ ap (put_detail (at + 3) a.1) (set_after before (1 ∷ 0 ∷ 0 ∷ l) at 1 a.0 e ∙ sym (append_assoc before front l))
      ∙ detail_put (before ++ front) (at + 3) place a.1 after ok.1
      ∙ append_assoc before front (detail_numbers (some a.1) ++ after)

  zoom_put : (a : ℕ × Decimal) → ValidStyle (zoom_style a) → put_zoom k a (before ++ (padded 53 [] ++ after)) ≡ before ++ (style_numbers (zoom_style a) ++ after)
  zoom_put a ok =
      let at = row_at k in
      let l = detail_numbers none ++ after in
      (λ i. set (set (set (before ++ (style_none i ++ after)) (row i) 2) (row i + 1) a.0) (row i + 2) (word_zoom a.1 ok.1 i))
      ∙ ap (λ o. set (set o (at + 1) a.0) (at + 2) (hundredths a.1)) (set_at before 0 (0 ∷ 0 ∷ l) 2 at e)
      ∙ ap (λ o. set o (at + 2) (hundredths a.1)) (set_after before (2 ∷ 0 ∷ 0 ∷ l) at 1 a.0 e)
      ∙ set_after before (2 ∷ a.0 ∷ 0 ∷ l) at 2 (hundredths a.1) e

-- a way to put a row where zeros are
abbrev Puts : {A : Type 0} → (ℕ → A → List ℕ → List ℕ) → (A → Style) → Type 0
Puts {A = A} put of = (before : List ℕ) (k : ℕ) → k < 64 → length before ≡ row_at k → (after : List ℕ) (a : A) → ValidStyle (of a)
    → put k a (before ++ (padded 53 [] ++ after)) ≡ before ++ (style_numbers (of a) ++ after)

rows_put : {A : Type 0} (put : ℕ → A → List ℕ → List ℕ) (of : A → Style) → Puts put of → (l : List A) → All ValidStyle (map of l)
    → (before : List ℕ) (k m : ℕ) → length before ≡ row_at k → k + length l ≤ 64
    → put_rows put k l (before ++ padded (53 * (length l + m)) []) ≡ (before ++ styles_numbers (map of l)) ++ padded (53 * m) []
rows_put put of one [] ok before k m e h = λ i. sym (append-nil before) i ++ padded (53 * zero-add m i) []
rows_put put of one (a ∷ l) ok before k m e h =
    let s = style_numbers (of a) in
    let more = styles_numbers (map of l) in
    let rest = padded (53 * (length l + m)) [] in
    let room : 53 * (suc (length l) + m) ≡ 53 + 53 * (length l + m) = omega arith in
    let here : padded (53 * (suc (length l) + m)) [] ≡ padded 53 [] ++ rest =
    ap (λ n. padded n []) room ∙ sym (padded_none (53 + 53 * (length l + m))) ∙ zeros_append 53 (53 * (length l + m)) in
    let place : length (before ++ s) ≡ row_at (k + 1) = omega (arith, length-append before s, style_size (of a)) in
    ap (λ o. put_rows put (k + 1) l (put k a (before ++ o))) here
    ∙ ap (put_rows put (k + 1) l) (one before k (omega arith) e rest a ok.0 ∙ sym (append_assoc before s rest))
    ∙ rows_put put of one l ok.1 (before ++ s) (k + 1) m place (omega arith)
    ∙ ap (λ o. o ++ padded (53 * m) []) (append_assoc before s more)

styles_append : (l m : List Style) → styles_numbers (l ++ m) ≡ styles_numbers l ++ styles_numbers m
styles_append [] m = refl
styles_append (s ∷ l) m = ap (λ k. style_numbers s ++ k) (styles_append l m) ∙ sym (append_assoc (style_numbers s) (styles_numbers l) (styles_numbers m))

module _ (s : Symbols) (ok : All ValidStyle (styles_of (some s))) (few : length (styles_of (some s)) ≤ 64) where
  abbrev colours : List Style
  colours = map colour_style s.0

  abbrev zooms : List Style
  zooms = map zoom_style s.1

  abbrev left : ℕ
  left = 64 - length (styles_of (some s))

  many : length s.0 + length s.1 ≡ length (styles_of (some s))
  many = omega (arith, length-append colours zooms, length-map s.0 colour_style, length-map s.1 zoom_style)

  both_put : (front : List ℕ) → length front ≡ row_at 0
      → put_rows put_zoom (length s.0) s.1 (put_rows put_colours 0 s.0 (front ++ padded 3392 [])) ≡ front ++ padded 3392 (styles_numbers (styles_of (some s)))
  both_put front e =
      let k = all_parts ValidStyle colours zooms ok in
      let a = styles_numbers colours in
      let b = styles_numbers zooms in
      let rest = padded (53 * left) [] in
      let room : 3392 ≡ 53 * (length s.0 + (length s.1 + left)) = omega (arith, many) in
      let place : length (front ++ a) ≡ row_at (length s.0) = omega (arith, length-append front a, styles_size colours, length-map s.0 colour_style) in
      let whole : 3392 ≡ length (styles_numbers (colours ++ zooms)) + 53 * left = omega (arith, styles_size (colours ++ zooms)) in
      ap (λ n. put_rows put_zoom (length s.0) s.1 (put_rows put_colours 0 s.0 (front ++ padded n []))) room
      ∙ ap (put_rows put_zoom (length s.0) s.1)
      (rows_put put_colours colour_style colours_put s.0 k.0 front 0 (length s.1 + left) e (omega (arith, many)))
      ∙ rows_put put_zoom zoom_style zoom_put s.1 k.1 (front ++ a) (length s.0) left place (omega (arith, many))
      ∙ ap (λ l. l ++ rest) (append_assoc front a b ∙ ap (λ l. front ++ l) (sym (styles_append colours zooms)))
      ∙ append_assoc front (styles_numbers (colours ++ zooms)) rest
      ∙ ap (λ l. front ++ l) (sym (padded_append (styles_numbers (colours ++ zooms)) (53 * left) 3392 whole))

  module _ (c p z d : ℕ) (background : Option (List ℕ)) (detail : Option Detail) where
    symbols_put : put_symbols s (blocks c p z d 0 (colour_numbers background) (detail_numbers detail) (padded 3392 []))
        ≡ blocks c p z d (length (styles_of (some s))) (colour_numbers background) (detail_numbers detail) (padded 3392 (styles_numbers (styles_of (some s))))
    symbols_put =
        let front = counts c p z d 0 (colour_numbers background ++ detail_numbers detail) in
        let rows = padded 3392 (styles_numbers (styles_of (some s))) in
        let count : min 65 (length s.0 + length s.1) ≡ length (styles_of (some s)) = omega (arith, many) in
        ap (put_symbols s) (before_rows c p z d 0 (colour_numbers background) (detail_numbers detail) (padded 3392 []))
        ∙ (λ i. set (both_put front (before_rows_size c p z d 0 background detail) i) 4 (count i))
        ∙ ap (λ l. set l 4 (length (styles_of (some s)))) (sym (before_rows c p z d 0 (colour_numbers background) (detail_numbers detail) rows))

-- THE PARTS, ONE AFTER THE OTHER

abbrev empty : List ℕ
empty = padded 3392 []

colorize_filled : (c : Option ℕ) → put_maybe (λ c o. set o 0 1) c (blocks 0 0 0 0 0 (colour_numbers none) (detail_numbers none) empty)
    ≡ blocks (colorize_number (present c)) 0 0 0 0 (colour_numbers none) (detail_numbers none) empty
colorize_filled none = refl
colorize_filled (some b) = refl

padding_filled : (c : ℕ) (p : Option ℕ) → put_maybe (λ n o. set o 1 (1 + n)) p (blocks c 0 0 0 0 (colour_numbers none) (detail_numbers none) empty)
    ≡ blocks c (padding_number p) 0 0 0 (colour_numbers none) (detail_numbers none) empty
padding_filled c none = refl
padding_filled c (some n) = refl

background_filled : (c p : ℕ) (background : Option (List ℕ)) → Any Colour background
    → put_maybe (put_colour 5) background (blocks c p 0 0 0 (colour_numbers none) (detail_numbers none) empty)
    ≡ blocks c p 0 0 0 (colour_numbers background) (detail_numbers none) empty
background_filled c p background ok = fill_put (counts c p 0 0 0 []) 5 refl background (detail_numbers none ++ empty) ok

module _ (c p : ℕ) (background : Option (List ℕ)) where
  detail_filled : (d : Option Detail) → Any ValidDetail d
      → put_maybe (λ d o. set (put_detail 30 d o) 3 (detail_count (some d))) d (blocks c p 0 0 0 (colour_numbers background) (detail_numbers none) empty)
      ≡ blocks c p 0 (detail_count d) 0 (colour_numbers background) (detail_numbers d) empty
  detail_filled none ok = refl
  detail_filled (some d) ok =
      let front = counts c p 0 0 0 (colour_numbers background) in
      ap (λ o. set o 3 (detail_count (some d))) (detail_put front 30 (omega (arith, colour_size background)) d empty ok)

  module _ (d : Option Detail) where
    zoom-filled : (z : Option Decimal) → Any (Range 1 9999) (given hundredths z)
        → put_maybe (λ z o. set o 2 (zoom_word z)) z (blocks c p 0 (detail_count d) 0 (colour_numbers background) (detail_numbers d) empty)
        ≡ blocks c p (zoom_number (given hundredths z)) (detail_count d) 0 (colour_numbers background) (detail_numbers d) empty
    zoom-filled none ok = refl
    zoom-filled (some z) ok =
        ap (λ n. blocks c p n (detail_count d) 0 (colour_numbers background) (detail_numbers d) empty) (word_zoom z ok)

    symbols-filled : (z : ℕ) (s : Option Symbols) → All ValidStyle (styles_of s) → length (styles_of s) ≤ 64
        → put_maybe put_symbols s (blocks c p z (detail_count d) 0 (colour_numbers background) (detail_numbers d) empty)
        ≡ blocks c p z (detail_count d) (length (styles_of s)) (colour_numbers background) (detail_numbers d) (padded 3392 (styles_numbers (styles_of s)))
    symbols-filled z none ok few = refl
    symbols-filled z (some s) ok few = symbols_put s ok few c p z (detail_count d) background d

-- what is put from the zoom, the detail colours and the background on
abbrev from_zoom : Spelling → List ℕ → List ℕ
from_zoom t o = put_maybe put_symbols t.symbols (put_maybe (λ z o. set o 2 (zoom_word z)) t.zoom o)

abbrev from_detail : Spelling → List ℕ → List ℕ
from_detail t o = from_zoom t (put_maybe (λ d o. set (put_detail 30 d o) 3 (detail_count (some d))) t.detail o)

abbrev from_background : Spelling → List ℕ → List ℕ
from_background t o = from_detail t (put_maybe (put_colour 5) t.background o)

pub record_fills : (t : Spelling) → styling.Valid t → Accepted t → put_styling t (zeros record_size) ≡ record_of (meaning t)
unfolding put_styling
record_fills t ok a =
    let v = meaning_valid t a ok in
    let c = colorize_number (present t.colorize) in
    let p = padding_number t.padding in
    let z = zoom_number (given hundredths t.zoom) in
    ap (put_styling t) zeros_blocks
    ∙ ap (λ o. from_background t (put_maybe (λ n o. set o 1 (1 + n)) t.padding o)) (colorize_filled t.colorize)
    ∙ ap (from_background t) (padding_filled c t.padding)
    ∙ ap (from_detail t) (background_filled c p t.background v.background)
    ∙ ap (from_zoom t) (detail_filled c p t.background t.detail v.detail)
    ∙ ap (put_maybe put_symbols t.symbols) (zoom-filled c p t.background t.detail t.zoom v.zoom)
    ∙ symbols-filled c p t.background t.detail z t.symbols v.symbols v.few
    ∙ sym (record_blocks (meaning t))
