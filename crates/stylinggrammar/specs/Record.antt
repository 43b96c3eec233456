-- A styling as 3472 numbers, as it lies in lent memory:
--
--   colorized  padding  zoom  detail colours  symbol styles    then the background and two detail colours, then for each of 64
--   symbol styles:  kind  number  zoom                         and two colours
--
-- Padding is by one more, so that 0 is none; a zoom is never 0. A colour is 25 numbers: its length, which is 0 for none, and its
-- bytes. The kind is 1 for colours and 2 for a zoom. What is not used is 0.
use Rattle.std.specs.Prelude.{ℕ, zero, suc, ◌+◌, ◌-◌, ◌*◌, ◌%◌, min, List, [], ◌∷◌, ◌++◌, map, Bool, true, false, eqb, length, get_or, take, drop}
use Rattle.std.proofs.Math.Option.{Option, none, some}
use Rattle.format.specs.Format.{choose}
use Rattle.token.specs.Padded.{padded}
use Rattle.stylinggrammar.specs.Styling.{Detail}
use Rattle.stylinggrammar.specs.Meaning.{Style, coloured, zoomed, Styling}

abbrev pub record_size : ℕ
record_size = 3472

abbrev pub colorize_number : Bool → ℕ
colorize_number true = 1
colorize_number false = 0

abbrev pub padding_number : Option ℕ → ℕ
padding_number none = 0
padding_number (some n) = 1 + n

abbrev pub zoom_number : Option ℕ → ℕ
zoom_number none = 0
zoom_number (some z) = z

abbrev pub colour_numbers : Option (List ℕ) → List ℕ
colour_numbers none = padded 25 []
colour_numbers (some c) = padded 25 (length c ∷ c)

abbrev pub detail_count : Option Detail → ℕ
detail_count none = 0
detail_count (some (line, none)) = 1
detail_count (some (line, some fill)) = 2

abbrev pub line_of : Option Detail → Option (List ℕ)
line_of none = none
line_of (some d) = some d.0

abbrev pub fill_of : Option Detail → Option (List ℕ)
fill_of none = none
fill_of (some d) = d.1

abbrev pub detail_numbers : Option Detail → List ℕ
detail_numbers d = colour_numbers (line_of d) ++ colour_numbers (fill_of d)

abbrev pub style_numbers : Style → List ℕ
style_numbers (coloured n d) = 1 ∷ n ∷ 0 ∷ detail_numbers (some d)
style_numbers (zoomed n z) = 2 ∷ n ∷ z ∷ detail_numbers none

abbrev pub styles_numbers : List Style → List ℕ
styles_numbers [] = []
styles_numbers (s ∷ l) = style_numbers s ++ styles_numbers l

unfoldable pub record_of : Styling → List ℕ
record_of s =
    colorize_number s.colorize ∷ padding_number s.padding ∷ zoom_number s.zoom ∷ detail_count s.detail ∷ length s.symbols
    ∷ (colour_numbers s.background ++ (detail_numbers s.detail ++ padded 3392 (styles_numbers s.symbols)))

-- THE STYLING IN A RECORD, whatever its numbers are: those that no styling has are brought into range

abbrev pub number_at : List ℕ → ℕ → ℕ
number_at w at = get_or w at 0

abbrev pub colour_at : List ℕ → ℕ → List ℕ
colour_at w at = map (λ b. b % 256) (take (min 24 (number_at w at)) (drop (at + 1) w))

abbrev pub or_none : {A : Type 0} → ℕ → A → Option A
or_none n a = choose (eqb n 0) none (some a)

abbrev pub colour_at_or_none : List ℕ → ℕ → Option (List ℕ)
colour_at_or_none w at = or_none (number_at w at) (colour_at w at)

abbrev pub detail_in : List ℕ → Option Detail
detail_in w = or_none (number_at w 3) (colour_at w 30, choose (eqb (number_at w 3) 1) none (some (colour_at w 55)))

-- where the row of symbol style k starts
abbrev pub row_at : ℕ → ℕ
row_at k = 80 + 53 * k

-- the start of a record with room for 8 symbol styles, which few stylings exceed
abbrev pub draft_size : ℕ
draft_size = 504

abbrev pub style_at : List ℕ → ℕ → Style
style_at w at =
    choose (eqb (number_at w at) 1)
    (coloured (number_at w (at + 1) % 100) (colour_at w (at + 3), colour_at_or_none w (at + 28)))
    (zoomed (number_at w (at + 1) % 100) (number_at w (at + 2) % 10000))

-- n symbol styles from style k on
abbrev pub styles_from : List ℕ → ℕ → ℕ → List Style
styles_from w k zero = []
styles_from w k (suc n) = style_at w (row_at k) ∷ styles_from w (k + 1) n

unfoldable pub styling_in : List ℕ → Styling
styling_in w = record {
  colorize = eqb (number_at w 0) 1;
  padding = or_none (number_at w 1) ((number_at w 1 - 1) % 100);
  background = colour_at_or_none w 5;
  detail = detail_in w;
  zoom = or_none (number_at w 2) (number_at w 2 % 10000);
  symbols = styles_from w 0 (min 64 (number_at w 4));
}
