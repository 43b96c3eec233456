-- What is asked of each part of a styling string, and what it puts into a record.
use Rattle.std.specs.Prelude.{Result as Answer, Ok, Err, ℕ, ◌+◌, ◌-◌, ◌*◌, ◌≤◌, min, ◌≡◌, List, [], ◌∷◌, Bool, true, false, ◌&&◌, ◌||◌, eqb, ltb, leb, length, set}
use Prim.Native.Char.{code}
use Rattle.std.proofs.Math.Option.{Option, none, some}
use Rattle.format.specs.Format.{Format, choose, sequence, optional, many, every}
use Rattle.charset.specs.Bytes.{byte, after}
use Rattle.token.specs.declared.refusal.Refusal.{Refusal}
use Rattle.stylinggrammar.specs.Styling.{among, colour, background, Detail, detail, Figures, figures, Decimal, decimal, two_digits, Symbols, Parts, Spelling}
use Rattle.stylinggrammar.specs.Meaning.{onward, if_any, short_name, short_detail, good_zoom, zooms_good, names_good}
use Rattle.stylinggrammar.specs.Record.{detail_count}
use Rattle.stylinggrammar.specs.Filling.{put_maybe, put_colour, put_detail, zoom_word, row_of, put_rows, put_symbols, put_styling}
use Rattle.stylingreader.specs.declared.part.Part.{Part}
use Rattle.stylingreader.specs.Parts.{Taking, plain, PartIn, both, amount_or, perhaps, missing}

-- COLOURS

-- n bytes begin a colour, and are one, if all are letters or all hexadecimal digits
abbrev pub goes_on : Bool → Bool → ℕ → Bool
goes_on letters hexadecimal n = letters || (hexadecimal && leb n 6)

unfoldable pub is_whole : Bool → Bool → ℕ → Bool
is_whole letters hexadecimal n = (letters && leb 1 n) || (hexadecimal && (eqb n 3 || eqb n 6))

-- a byte of a colour, of which the first 24 are kept
unfoldable pub kept_byte : List ℕ → ℕ → ℕ → ℕ → List ℕ
kept_byte o at n b = choose (ltb n 24) (set o (at + 1 + n) b) o

-- a colour of n bytes that ends at an offset
unfoldable pub colour_part : List ℕ → ℕ → ℕ → Bool → Bool → Answer Part Refusal
colour_part s i n letters hexadecimal =
    choose (is_whole letters hexadecimal n) (Ok (record { zooms = true; place = i; names = leb n 24; amount = 0 })) (Err (missing s i))

pub record ColourEnds (s : List ℕ) (i at n : ℕ) (letters hexadecimal : Bool) (r : Answer Part Refusal) (o p : List ℕ) : Type 0 where
  pub is : r ≡ colour_part s i n letters hexadecimal
  pub holds : p ≡ set o at (min 25 n)

abbrev pub take_colour : ℕ → Taking (List ℕ)
take_colour at = record { zooms = λ c. true; names = short_name; amount = λ c. 0; put = put_colour at }

-- the fill colour, and how many colours there are with it
abbrev pub fill : Format (Option (List ℕ))
fill = optional (after (code ",") colour)

abbrev pub with_fill : Option (List ℕ) → ℕ
with_fill none = 1
with_fill (some c) = 2

abbrev pub take_fill : ℕ → Taking (Option (List ℕ))
take_fill at = record { zooms = λ c. true; names = if_any short_name; amount = with_fill; put = put_maybe (put_colour at) }

abbrev pub take_detail : ℕ → Taking Detail
take_detail at = record { zooms = λ d. true; names = short_detail; amount = λ d. detail_count (some d); put = put_detail at }

-- ZOOMS

-- digits before the point, of which a number above 100 counts as 100, or after it, of which two count
abbrev pub amount_of : Bool → List ℕ → ℕ
amount_of false l = min 100 (onward 0 l)
amount_of true [] = 0
amount_of true (a ∷ []) = a * 10
amount_of true (a ∷ b ∷ l) = a * 10 + b

-- the same with a digit more, after n of them
unfoldable pub with_digit : Bool → ℕ → ℕ → ℕ → ℕ
with_digit false v n d = min 100 (v * 10 + d)
with_digit true v n d = choose (eqb n 0) (d * 10) (choose (eqb n 1) (v + d) v)

unfoldable pub few_digits : Bool → ℕ → Bool
few_digits false n = true
few_digits true n = leb n 2

abbrev pub take_figures : Bool → Taking Figures
take_figures decimals = record {
  zooms = λ f. few_digits decimals (1 + length f.1);
  names = λ f. true;
  amount = λ f. amount_of decimals (f.0 ∷ f.1);
  put = λ f o. o;
}

pub record FiguresIn (decimals : Bool) (s : List ℕ) (at : ℕ) (r : Answer Part Refusal) : Type 0 where
  pub part : PartIn figures (take_figures decimals) s at r [] []
  pub small : (v : Part) → r ≡ Ok v → v.amount ≤ 100

-- digits from an offset up to another
unfoldable pub figures_part : List ℕ → ℕ → ℕ → ℕ → Bool → Answer Part Refusal
figures_part s at i v decimals =
    choose (ltb at i) (Ok (record { zooms = few_digits decimals (i - at); place = i; names = true; amount = v })) (Err (missing s at))

unfoldable pub zoom_part : ℕ → ℕ → Bool → Part
zoom_part place word few = record { zooms = few && among 1 9999 word; place = place; names = true; amount = 0 }

pub record ZoomPut (place i word : ℕ) (few : Bool) (r : Part) (o p : List ℕ) : Type 0 where
  pub is : r ≡ zoom_part place word few
  pub holds : p ≡ set o i word

abbrev pub take_zoom : ℕ → Taking Decimal
take_zoom i = record { zooms = good_zoom; names = λ z. true; amount = λ z. 0; put = λ z o. set o i (zoom_word z) }

-- NUMBERS AND SYMBOL STYLES

-- two digits, put as a number by some more
abbrev pub take_number : ℕ → ℕ → Taking ℕ
take_number i more = plain λ n o. set o i (more + n)

abbrev pub of_zoom : Format Decimal
of_zoom = after (code ",") decimal

-- a symbol style: its kind, the symbol's number, and what it says, in a row
abbrev pub take_colouring : ℕ → Taking (ℕ × Detail)
take_colouring row = record {
  zooms = λ p. true;
  names = λ p. short_detail p.1;
  amount = λ p. detail_count (some p.1);
  put = λ p o. put_detail (row + 3) p.1 (set (set o row 1) (row + 1) p.0);
}

abbrev pub take_zooming : ℕ → Taking (ℕ × Decimal)
take_zooming row = record {
  zooms = λ p. good_zoom p.1;
  names = λ p. true;
  amount = λ p. 0;
  put = λ p o. set (set (set o row 2) (row + 1) p.0) (row + 2) (zoom_word p.1);
}

-- the two kinds of symbol styles: the letter, the number of the kind, what follows the symbol's number, and how that and the whole are
-- taken into a row
pub record Kind : Type 1 where
  pub Says : Type 0
  pub letter : ℕ
  pub number : ℕ
  pub says : Format Says
  pub taken : ℕ → Taking Says
  pub take : ℕ → Taking (ℕ × Says)

abbrev pub kind : Bool → Kind
kind false = record { Says = Detail; letter = code "D"; number = 1; says = detail; taken = λ row. take_detail (row + 3); take = take_colouring }
kind true = record { Says = Decimal; letter = code "Z"; number = 2; says = of_zoom; taken = λ row. take_zoom (row + 2); take = take_zooming }

-- what follows the letter
abbrev pub style : (zoomed : Bool) → Format (ℕ × (kind zoomed).Says)
style zoomed = sequence two_digits λ n. (kind zoomed).says

abbrev pub styles : (zoomed : Bool) → Format (List (ℕ × (kind zoomed).Says))
styles zoomed = many (after (kind zoomed).letter (style zoomed))

-- styles of which the first has number k; the amount is how many there are with the k before them, or 65. What is within the limits
-- does not depend on the row.
abbrev pub take_styles : (zoomed : Bool) → ℕ → Taking (List (ℕ × (kind zoomed).Says))
take_styles zoomed k = record {
  zooms = every ((kind zoomed).take 0).zooms;
  names = every ((kind zoomed).take 0).names;
  amount = λ l. min 65 (k + length l);
  put = put_rows (λ k. ((kind zoomed).take (row_of k)).put) k;
}

abbrev pub take_symbols : Taking Symbols
take_symbols = record {
  zooms = λ s. every (λ p. good_zoom p.1) s.1;
  names = λ s. every (λ p. short_detail p.1) s.0;
  amount = λ s. min 65 (length s.0 + length s.1);
  put = put_symbols;
}

-- THE PARTS OF A STYLING STRING, each of which may be absent, and each with what follows it

abbrev pub maybe_colorize : Format (Option ℕ)
maybe_colorize = optional (byte (code "C"))

abbrev pub maybe_padding : Format (Option ℕ)
maybe_padding = optional (after (code "P") two_digits)

abbrev pub maybe_background : Format (Option (List ℕ))
maybe_background = optional (after (code "G") background)

abbrev pub maybe_detail : Format (Option Detail)
maybe_detail = optional (after (code "D") detail)

abbrev pub maybe_zoom : Format (Option Decimal)
maybe_zoom = optional (after (code "Z") decimal)

abbrev pub take_colorize : Taking (Option ℕ)
take_colorize = plain (put_maybe (λ c o. set o 0 1))

abbrev pub take_details : Taking Detail
take_details = record { zooms = λ d. true; names = short_detail; amount = λ d. detail_count (some d); put = λ d o. set (put_detail 30 d o) 3 (detail_count (some d)) }

abbrev pub take_from_symbols : Taking (Option Symbols)
take_from_symbols = perhaps take_symbols

abbrev pub take_from_zoom : Taking (Option Decimal × Option Symbols)
take_from_zoom = both (perhaps (take_zoom 2)) λ z. take_from_symbols

abbrev pub take_from_detail : Taking (Option Detail × (Option Decimal × Option Symbols))
take_from_detail = both (perhaps take_details) λ d. take_from_zoom

abbrev pub take_from_background : Taking (Option (List ℕ) × (Option Detail × (Option Decimal × Option Symbols)))
take_from_background = both (perhaps (take_colour 5)) λ g. take_from_detail

abbrev pub take_from_padding : Taking (Option ℕ × (Option (List ℕ) × (Option Detail × (Option Decimal × Option Symbols))))
take_from_padding = both (perhaps (take_number 1 1)) λ n. take_from_background

abbrev pub take_parts : Taking Parts
take_parts = both take_colorize λ c. take_from_padding

abbrev pub take_spelling : Taking Spelling
take_spelling = record { zooms = zooms_good; names = names_good; amount = λ t. amount_or 0 take_symbols.amount t.symbols; put = put_styling }
