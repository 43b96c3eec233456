-- A record is five numbers, three colours and the rows of the symbol styles.
use Prim.Native.Nat.{ℕ, suc, ◌+◌, ◌*◌}
use mathlib.Core.List.{List, [], ◌∷◌, ◌++◌, append_assoc}
use mathlib.Core.Option.{Option, none, some}
use mathlib.Core.Path.{◌≡◌, refl, sym, ap, ◌∙◌}
use lib.ListN.{length, length-append}
use native.Mathlib.Omega.{arith}
use Rattle.stylinggrammar.specs.Styling.{Detail}
use Rattle.stylinggrammar.specs.Meaning.{Style, coloured, zoomed, Styling}
use Rattle.token.specs.Padded.{padded, zeros}
use Rattle.token.proofs.PaddedLists.{padded_length, padded_none, zeros_append}
use Rattle.stylinggrammar.specs.Record.{record_size, colorize_number, padding_number, zoom_number, colour_numbers, detail_count, line_of, fill_of, detail_numbers, style_numbers, styles_numbers, record_of}

-- five numbers before a list
abbrev pub counts : ℕ → ℕ → ℕ → ℕ → ℕ → List ℕ → List ℕ
counts c p z d n l = c ∷ p ∷ z ∷ d ∷ n ∷ l

abbrev pub blocks : ℕ → ℕ → ℕ → ℕ → ℕ → List ℕ → List ℕ → List ℕ → List ℕ
blocks c p z d n background detail rows = counts c p z d n (background ++ (detail ++ rows))

pub record_blocks : (s : Styling) → record_of s
    ≡ blocks (colorize_number s.colorize) (padding_number s.padding) (zoom_number s.zoom) (detail_count s.detail) (length s.symbols)
    (colour_numbers s.background) (detail_numbers s.detail) (padded 3392 (styles_numbers s.symbols))
unfolding record_of
record_blocks s = refl

-- SIZES

pub colour_size : (c : Option (List ℕ)) → length (colour_numbers c) ≡ 25
colour_size none = padded_length 25 []
colour_size (some c) = padded_length 25 (length c ∷ c)

pub detail_size : (d : Option Detail) → length (detail_numbers d) ≡ 50
detail_size d =
    omega (arith, length-append (colour_numbers (line_of d)) (colour_numbers (fill_of d)), colour_size (line_of d), colour_size (fill_of d))

pub style_size : (s : Style) → length (style_numbers s) ≡ 53
style_size (coloured n d) = ap (λ k. suc (suc (suc k))) (detail_size (some d))
style_size (zoomed n z) = ap (λ k. suc (suc (suc k))) (detail_size none)

pub styles_size : (l : List Style) → length (styles_numbers l) ≡ 53 * length l
styles_size [] = refl
styles_size (s ∷ l) = let k = styles_size l in omega (arith, length-append (style_numbers s) (styles_numbers l), style_size s)

pub record_size_lem : (s : Styling) → length (record_of s) ≡ record_size
record_size_lem s =
    let background = colour_numbers s.background in
    let detail = detail_numbers s.detail in
    let rows = padded 3392 (styles_numbers s.symbols) in
    let k : 5 + (length background + (length detail + length rows)) ≡ 3472 =
    omega (arith, colour_size s.background, detail_size s.detail, padded_length 3392 (styles_numbers s.symbols)) in
    ap length (record_blocks s) ∙ omega (arith, k, length-append background (detail ++ rows), length-append detail rows)

-- WHERE THE ROWS START

pub before_rows : (c p z d n : ℕ) (background detail rows : List ℕ)
    → blocks c p z d n background detail rows ≡ counts c p z d n (background ++ detail) ++ rows
before_rows c p z d n background detail rows = ap (counts c p z d n) (sym (append_assoc background detail rows))

pub before_rows_size : (c p z d n : ℕ) (background : Option (List ℕ)) (detail : Option Detail)
    → length (counts c p z d n (colour_numbers background ++ detail_numbers detail)) ≡ 80
before_rows_size c p z d n background detail =
    omega (arith, length-append (colour_numbers background) (detail_numbers detail), colour_size background, detail_size detail)

-- NO STYLING

detail_none : padded 50 [] ≡ detail_numbers none
detail_none = sym (padded_none 50) ∙ zeros_append 25 25

pub style_none : padded 53 [] ≡ 0 ∷ 0 ∷ 0 ∷ detail_numbers none
style_none = sym (padded_none 53) ∙ zeros_append 3 50 ∙ λ i. sym (padded_none 3) i ++ detail_none i

pub zeros_blocks : zeros record_size ≡ blocks 0 0 0 0 0 (colour_numbers none) (detail_numbers none) (padded 3392 [])
zeros_blocks =
    zeros_append 5 3467
    ∙ (λ i. sym (padded_none 5) i ++ sym (padded_none 3467) i)
    ∙ ap (counts 0 0 0 0 0)
    (zeros_append 25 3442 ∙ ap (λ k. colour_numbers none ++ k) (sym (padded_none 3442) ∙ zeros_append 50 3392 ∙ ap (λ k. k ++ padded 3392 []) detail_none))
