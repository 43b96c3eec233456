-- The styling in the record of a styling is that styling.
use Prim.Native.Nat.{ℕ, ◌+◌, ◌-◌, ◌*◌, ◌%◌, ◌≤◌, ◌<◌, min}
use mathlib.Core.List.{List, [], ◌∷◌, ◌++◌, map, append_assoc}
use mathlib.Core.Bool.{Bool, true, false, ◌||◌}
use mathlib.Core.Logic.{◌⊎◌, inl, inr}
use mathlib.Core.Option.{Option, none, some}
use mathlib.Core.Path.{◌≡◌, refl, sym, ap, subst, ◌∙◌}
use lib.Dec.{eqb}
use lib.ListN.{length, take, drop, length-append}
use lib.Seq.{get_or-append-add, drop-append-add, take-append_seam}
use native.Mathlib.Omega.{arith}
use borrow.Author.Tests.{ne_eqb}
use Rattle.format.specs.Format.{All, Any, choose, every}
use Rattle.format.specs.Numeral.{Range}
use Rattle.format.proofs.Lists.{every_all}
use Rattle.stylinggrammar.specs.Styling.{among, letter, hexadecimal, is_colour, Detail}
use Rattle.stylinggrammar.specs.Meaning.{Style, coloured, zoomed, Styling, Colour, ValidDetail, ValidStyle, Valid}
use Rattle.stylinggrammar.proofs.Tests.{false_true, which, among_range}
use Rattle.stylinggrammar.proofs.Colours.{colour_as}
use Rattle.token.specs.Padded.{padded}
use Rattle.token.proofs.PaddedLists.{padded_zero, padded_first, padded_append}
use Rattle.stylinggrammar.specs.Record.{colorize_number, padding_number, zoom_number, colour_numbers, detail_count, detail_numbers, style_numbers, styles_numbers, record_of, number_at, colour_at, or_none, colour_at_or_none, detail_in, row_at, style_at, styles_from, styling_in}
use Rattle.stylinggrammar.proofs.RecordBlocks.{counts, blocks, record_blocks, colour_size, style_size, styles_size, before_rows, before_rows_size}

-- THE BYTES OF A COLOUR

among_small : (lo hi b : ℕ) → hi < 256 → among lo hi b ≡ true → b < 256
among_small lo hi b h e = omega (arith, (among_range lo hi b e).1)

letter_small : (b : ℕ) → letter b ≡ true → b < 256
unfolding letter
letter_small b e = go (which (among 65 90 b) (among 97 122 b) e)
  where
    go : (among 65 90 b ≡ true) ⊎ (among 97 122 b ≡ true) → b < 256
    go (inl k) = among_small 65 90 b (omega arith) k
    go (inr k) = among_small 97 122 b (omega arith) k

hexadecimal_small : (b : ℕ) → hexadecimal b ≡ true → b < 256
unfolding hexadecimal
hexadecimal_small b e = go (which (among 48 57 b) (among 65 70 b || among 97 102 b) e)
  where
    letters : (among 65 70 b ≡ true) ⊎ (among 97 102 b ≡ true) → b < 256
    letters (inl k) = among_small 65 70 b (omega arith) k
    letters (inr k) = among_small 97 102 b (omega arith) k

    go : (among 48 57 b ≡ true) ⊎ ((among 65 70 b || among 97 102 b) ≡ true) → b < 256
    go (inl k) = among_small 48 57 b (omega arith) k
    go (inr k) = letters (which (among 65 70 b) (among 97 102 b) k)

module _ (test : ℕ → Bool) (small : (b : ℕ) → test b ≡ true → b < 256) where
  tested_same : (c : List ℕ) → All (λ b. test b ≡ true) c → map (λ b. b % 256) c ≡ c
  tested_same [] ok = refl
  tested_same (b ∷ c) ok =
      let e : b % 256 ≡ b = omega (arith, small b ok.0) in
      λ i. e i ∷ tested_same c ok.1 i

colour_same : (c : List ℕ) → is_colour c ≡ true → map (λ b. b % 256) c ≡ c
colour_same c e = go (colour_as c e)
  where
    go : (every letter c ≡ true) ⊎ ((every hexadecimal c ≡ true) × (length c ≤ 6)) → map (λ b. b % 256) c ≡ c
    go (inl k) = tested_same letter letter_small c (every_all letter c k)
    go (inr k) = tested_same hexadecimal hexadecimal_small c (every_all hexadecimal c k.0)

colour_some : (c : List ℕ) → is_colour c ≡ true → 1 ≤ length c
unfolding is_colour
colour_some [] e = false_true e
colour_some (b ∷ c) e = omega arith

-- WHAT IS NOT 0

some_of : {A : Type 0} (n : ℕ) (a : A) → 1 ≤ n → or_none n a ≡ some a
some_of n a h = ap (λ t. choose t none (some a)) (ne_eqb n 0 λ e. omega arith)

-- NUMBERS AND COLOURS AFTER A LIST

module _ (before : List ℕ) (n : ℕ) (e : length before ≡ n) where
  number_after : (l : List ℕ) (i : ℕ) → number_at (before ++ l) (n + i) ≡ number_at l i
  number_after l i = subst (λ (k : ℕ). number_at (before ++ l) (k + i) ≡ number_at l i) e (get_or-append-add before l i 0)

  number_first : (l : List ℕ) → number_at (before ++ l) n ≡ number_at l 0
  number_first l = ap (number_at (before ++ l)) (omega arith) ∙ number_after l 0

  drop_after : (l : List ℕ) (i : ℕ) → drop (n + i) (before ++ l) ≡ drop i l
  drop_after l i = subst (λ (k : ℕ). drop (k + i) (before ++ l) ≡ drop i l) e (drop-append-add before l i)

  colour_numbers_lem : (c after : List ℕ) → length c ≤ 24 → colour_numbers (some c) ++ after ≡ length c ∷ (c ++ (padded (24 - length c) [] ++ after))
  colour_numbers_lem c after h =
      ap (λ k. k ++ after) (padded_first 24 (length c) c ∙ ap (λ k. length c ∷ k) (padded_append c (24 - length c) 24 (omega arith)))
      ∙ ap (λ k. length c ∷ k) (append_assoc c (padded (24 - length c) []) after)

  colour_length : (c after : List ℕ) → length c ≤ 24 → number_at (before ++ (colour_numbers (some c) ++ after)) n ≡ length c
  colour_length c after h = number_first (colour_numbers (some c) ++ after) ∙ ap (λ l. number_at l 0) (colour_numbers_lem c after h)

  colour_back : (c after : List ℕ) → Colour c → colour_at (before ++ (colour_numbers (some c) ++ after)) n ≡ c
  colour_back c after ok =
      let size : min 24 (number_at (before ++ (colour_numbers (some c) ++ after)) n) ≡ length c = omega (arith, ok.1, colour_length c after ok.1) in
      let rest : drop (n + 1) (before ++ (colour_numbers (some c) ++ after)) ≡ c ++ (padded (24 - length c) [] ++ after) =
      drop_after (colour_numbers (some c) ++ after) 1 ∙ ap (drop 1) (colour_numbers_lem c after ok.1) in
      (λ i. map (λ b. b % 256) (take (size i) (rest i)))
      ∙ ap (map λ b. b % 256) (take-append_seam c (padded (24 - length c) [] ++ after))
      ∙ colour_same c ok.0

  colour_or_none_back : (c : Option (List ℕ)) (after : List ℕ) → Any Colour c → colour_at_or_none (before ++ (colour_numbers c ++ after)) n ≡ c
  colour_or_none_back none after ok =
      let w = before ++ (colour_numbers none ++ after) in
      ap (λ k. or_none k (colour_at w n)) (number_first (colour_numbers none ++ after) ∙ ap (λ l. number_at (l ++ after) 0) (padded_zero 24))
  colour_or_none_back (some c) after ok =
      let w = before ++ (colour_numbers (some c) ++ after) in
      some_of (number_at w n) (colour_at w n) (omega (arith, colour_length c after ok.1, colour_some c ok.0)) ∙ ap some (colour_back c after ok)

-- LINE AND FILL AFTER A LIST

module _ (before : List ℕ) (n : ℕ) (e : length before ≡ n) (d : Detail) (after : List ℕ) where
  at_line : before ++ (detail_numbers (some d) ++ after) ≡ before ++ (colour_numbers (some d.0) ++ (colour_numbers d.1 ++ after))
  at_line = ap (λ l. before ++ l) (append_assoc (colour_numbers (some d.0)) (colour_numbers d.1) after)

  at_fill : before ++ (detail_numbers (some d) ++ after) ≡ (before ++ colour_numbers (some d.0)) ++ (colour_numbers d.1 ++ after)
  at_fill = at_line ∙ sym (append_assoc before (colour_numbers (some d.0)) (colour_numbers d.1 ++ after))

  fill_place : length (before ++ colour_numbers (some d.0)) ≡ n + 25
  fill_place = omega (arith, length-append before (colour_numbers (some d.0)), colour_size (some d.0))

  line_back : Colour d.0 → colour_at (before ++ (detail_numbers (some d) ++ after)) n ≡ d.0
  line_back ok = ap (λ w. colour_at w n) at_line ∙ colour_back before n e d.0 (colour_numbers d.1 ++ after) ok

  fill_back : Any Colour d.1 → colour_at_or_none (before ++ (detail_numbers (some d) ++ after)) (n + 25) ≡ d.1
  fill_back ok = ap (λ w. colour_at_or_none w (n + 25)) at_fill ∙ colour_or_none_back (before ++ colour_numbers (some d.0)) (n + 25) fill_place d.1 after ok

-- a fill that is there
fill_colour_back : (before : List ℕ) (n : ℕ) → length before ≡ n → (line fill after : List ℕ) → Colour fill
    → colour_at (before ++ (detail_numbers (some (line, some fill)) ++ after)) (n + 25) ≡ fill
fill_colour_back before n e line fill after ok =
    ap (λ w. colour_at w (n + 25)) (at_fill before n e (line, some fill) after)
    ∙ colour_back (before ++ colour_numbers (some line)) (n + 25) (fill_place before n e (line, some fill) after) fill after ok

-- SYMBOL STYLES

module _ (before : List ℕ) (at : ℕ) (e : length before ≡ at) (after : List ℕ) where
  style_back : (s : Style) → ValidStyle s → style_at (before ++ (style_numbers s ++ after)) at ≡ s
  style_back (coloured n d) ok =
      let w = before ++ (style_numbers (coloured n d) ++ after) in
      let front = before ++ (1 ∷ n ∷ 0 ∷ []) in
      let place : length front ≡ at + 3 = omega (arith, length-append before (1 ∷ n ∷ 0 ∷ [])) in
      let parts : w ≡ front ++ (detail_numbers (some d) ++ after) = sym (append_assoc before (1 ∷ n ∷ 0 ∷ []) (detail_numbers (some d) ++ after)) in
      let kind : number_at w at ≡ 1 = number_first before at e (style_numbers (coloured n d) ++ after) in
      let number : number_at w (at + 1) ≡ n = number_after before at e (style_numbers (coloured n d) ++ after) 1 in
      let small : n % 100 ≡ n = omega (arith, ok.0) in
      let line : colour_at w (at + 3) ≡ d.0 = ap (λ w. colour_at w (at + 3)) parts ∙ line_back front (at + 3) place d after ok.1.0 in
      let there : at + 28 ≡ at + 3 + 25 = omega arith in
      let fill : colour_at_or_none w (at + 28) ≡ d.1 = (λ i. colour_at_or_none (parts i) (there i)) ∙ fill_back front (at + 3) place d after ok.1.1 in
      (λ i. choose (eqb (kind i) 1) (coloured (number i % 100) (line i, fill i)) (zoomed (number i % 100) (number_at w (at + 2) % 10000)))
      ∙ ap (λ k. coloured k d) small
  style_back (zoomed n z) ok =
      let l = style_numbers (zoomed n z) ++ after in
      let w = before ++ l in
      let kind : number_at w at ≡ 2 = number_first before at e l in
      let number : number_at w (at + 1) % 100 ≡ n = omega (arith, number_after before at e l 1, ok.0) in
      let zoom : number_at w (at + 2) % 10000 ≡ z = omega (arith, number_after before at e l 2, ok.1.1) in
      λ i. choose (eqb (kind i) 1) (coloured (number_at w (at + 1) % 100) (colour_at w (at + 3), colour_at_or_none w (at + 28))) (zoomed (number i) (zoom i))

styles_back : (l : List Style) → All ValidStyle l → (before after : List ℕ) (k : ℕ) → length before ≡ row_at k
    → styles_from (before ++ (styles_numbers l ++ after)) k (length l) ≡ l
styles_back [] ok before after k e = refl
styles_back (s ∷ l) ok before after k e =
    let rest = styles_numbers l ++ after in
    let here : before ++ (styles_numbers (s ∷ l) ++ after) ≡ before ++ (style_numbers s ++ rest) =
    ap (λ m. before ++ m) (append_assoc (style_numbers s) (styles_numbers l) after) in
    let place : length (before ++ style_numbers s) ≡ row_at (k + 1) = omega (arith, length-append before (style_numbers s), style_size s) in
    let one = ap (λ w. style_at w (row_at k)) here ∙ style_back before (row_at k) e rest s ok.0 in
    let more = ap (λ w. styles_from w (k + 1) (length l)) (here ∙ sym (append_assoc before (style_numbers s) rest)) ∙ styles_back l ok.1 (before ++ style_numbers s) after (k + 1) place in
    λ i. one i ∷ more i

-- THE WHOLE

colorize_back : (b : Bool) → eqb (colorize_number b) 1 ≡ b
colorize_back true = refl
colorize_back false = refl

padding_back : (p : Option ℕ) → Any (λ n. n ≤ 99) p → or_none (padding_number p) ((padding_number p - 1) % 100) ≡ p
padding_back none ok = refl
padding_back (some n) ok = some_of (1 + n) ((1 + n - 1) % 100) (omega arith) ∙ ap some (omega arith)

zoom_back : (z : Option ℕ) → Any (Range 1 9999) z → or_none (zoom_number z) (zoom_number z % 10000) ≡ z
zoom_back none ok = refl
zoom_back (some z) ok = some_of z (z % 10000) ok.0 ∙ ap some (omega (arith, ok.1))

module _ (c p z n : ℕ) (background : Option (List ℕ)) (rows : List ℕ) where
  detail_back : (d : Option Detail) → Any ValidDetail d → detail_in (blocks c p z (detail_count d) n (colour_numbers background) (detail_numbers d) rows) ≡ d
  detail_back none ok = refl
  detail_back (some (line, none)) ok =
      let front = counts c p z 1 n (colour_numbers background) in
      let place : length front ≡ 30 = omega (arith, colour_size background) in
      ap (λ l. some (l, none)) (line_back front 30 place (line, none) rows ok.0)
  detail_back (some (line, some fill)) ok =
      let front = counts c p z 2 n (colour_numbers background) in
      let place : length front ≡ 30 = omega (arith, colour_size background) in
      let one = line_back front 30 place (line, some fill) rows ok.0 in
      let two = fill_colour_back front 30 place line fill rows ok.1 in
      λ i. some (one i, some (two i))

rows_back : (c p z d : ℕ) (background : Option (List ℕ)) (detail : Option Detail) (l : List Style) → All ValidStyle l → length l ≤ 64
    → styles_from (blocks c p z d (length l) (colour_numbers background) (detail_numbers detail) (padded 3392 (styles_numbers l))) 0 (min 64 (length l)) ≡ l
rows_back c p z d background detail l ok h =
    let front = counts c p z d (length l) (colour_numbers background ++ detail_numbers detail) in
    let rest = padded (3392 - 53 * length l) [] in
    let rows = padded_append (styles_numbers l) (3392 - 53 * length l) 3392 (omega (arith, styles_size l)) in
    let here = before_rows c p z d (length l) (colour_numbers background) (detail_numbers detail) (padded 3392 (styles_numbers l)) ∙ ap (λ m. front ++ m) rows in
    let many : min 64 (length l) ≡ length l = omega arith in
    (λ i. styles_from (here i) 0 (many i)) ∙ styles_back l ok front rest 0 (before_rows_size c p z d (length l) background detail)

pub record_back : (s : Styling) → Valid s → styling_in (record_of s) ≡ s
unfolding styling_in
record_back s v =
    let c = colorize_number s.colorize in
    let p = padding_number s.padding in
    let z = zoom_number s.zoom in
    let n = length s.symbols in
    let rows = padded 3392 (styles_numbers s.symbols) in
    ap styling_in (record_blocks s)
    ∙ λ i. record {
      colorize = colorize_back s.colorize i;
      padding = padding_back s.padding v.padding i;
      background = colour_or_none_back (counts c p z (detail_count s.detail) n []) 5 refl s.background (detail_numbers s.detail ++ rows) v.background i;
      detail = detail_back c p z n s.background rows s.detail v.detail i;
      zoom = zoom_back s.zoom v.zoom i;
      symbols = rows_back c p z (detail_count s.detail) s.background s.detail s.symbols v.symbols v.few i;
    }
