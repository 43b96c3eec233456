-- The styling string is exact, its parts are lawful, and each may be followed by what follows it.
use Prim.Native.Nat.{ℕ}
use mathlib.Core.List.{List, [], ◌∷◌, ◌++◌, append_assoc}
use mathlib.Core.Path.{◌≡◌, refl, ap}
use mathlib.Core.Logic.{◌⊎◌, inl, inr}
use mathlib.Core.Option.{Option, none, some}
use native.Mathlib.Omega.{arith}
use Rattle.format.specs.Format.{Format, sequence, mapped, optional, many, Absent, FollowAll}
use Rattle.format.proofs.Lawful.{Lawful}
use Rattle.format.proofs.Parts.{Inverse}
use Rattle.format.proofs.Exact.{Exact}
use Rattle.format.proofs.ExactParts.{sequence_exact, mapped_exact, optional_exact}
use Rattle.format.proofs.ExactMany.{many_exact}
use Rattle.format.proofs.Delimited.{Delimited, Strict, solid, optional_firm, sequence_firm, sequence_delimited}
use Rattle.format.proofs.Unit.{unit_above}
use Rattle.format.proofs.Open.{Open, delimited_open, sequence_open, many_firm}
use Rattle.format.proofs.Begun.{absent_other}
use Rattle.charset.specs.Bytes.{byte_of, digit_of, digit_byte, byte, digit, after}
use Rattle.charset.proofs.Coding.{byte_exact}
use Rattle.charset.proofs.Units.{digit_strict, digits_strict, after_exact, after_delimited, after_firm, after_open}
use Rattle.charset.proofs.FixedByte.{Not, byte_absent, after_absent}
use Rattle.stylinggrammar.specs.Styling.{before, colour, background, Detail, line_and_fill, detail, Figures, figures, Decimal, decimal, two_digits, symbol_colours, symbol_zoom, Symbols, symbols, from_symbols, from_zoom, from_detail, from_background, from_padding, parts, Spelling, to_spelling, of_spelling, styling}
use Rattle.stylinggrammar.proofs.Colours.{colour_exact, colour_open, colour_lawful, comma_stops, underscore_stops}
use Rattle.stylinggrammar.proofs.Bytes.{before_exact, before_delimited, part_follow, part_not}

-- BETWEEN UNDERSCORES

background_inner : Delimited 1 (before 95 colour)
background_inner = before_delimited 95 colour colour_open λ v rest ok. underscore_stops v rest

pub background_delimited : Delimited 1 background
background_delimited = after_delimited 95 (before 95 colour) background_inner

pub background_exact : Exact 1 background
background_exact = after_exact 95 (before 95 colour) (before_exact 95 colour colour_exact)

pub background_lawful : Lawful 1 background
background_lawful = background_exact.lawful

-- a colour after a comma
pub fill_open : Open 1 (after 44 colour)
fill_open = after_open 44 colour colour_lawful colour_open.firm

pub fill_exact : Exact 1 (optional (after 44 colour))
fill_exact = optional_exact 1 (after 44 colour) (after_exact 44 colour colour_exact)

pub line_and_fill_exact : Exact 1 line_and_fill
line_and_fill_exact = sequence_exact 1 colour (λ line. optional (after 44 colour)) colour_exact λ line ok. fill_exact

pub line_and_fill_open : Open 1 line_and_fill
line_and_fill_open =
    sequence_open 1 colour (λ line. optional (after 44 colour)) colour_open (λ line ok. optional_firm (after 44 colour) fill_open.firm) λ line ok. fill_exact.lawful

pub line_and_fill_lawful : Lawful 1 line_and_fill
line_and_fill_lawful = line_and_fill_exact.lawful

-- an underscore ends them
line_and_fill_ends : (v : Detail) (rest : List ℕ) → line_and_fill.Follow v (95 ∷ rest)
line_and_fill_ends v rest = (fill v.1, line v.1)
  where
    fill : (f : Option (List ℕ)) → (optional (after 44 colour)).Follow f (95 ∷ rest)
    fill none = after_absent 44 colour (95 ∷ rest) λ e. omega arith
    fill (some c) = (underscore_stops c rest, tt)

    line : (f : Option (List ℕ)) → colour.Follow v.0 ((optional (after 44 colour)).write f ++ (95 ∷ rest))
    line none = underscore_stops v.0 rest
    line (some c) = comma_stops v.0 (c ++ (95 ∷ rest))

pub detail_exact : Exact 1 detail
detail_exact = after_exact 95 (before 95 line_and_fill) (before_exact 95 line_and_fill line_and_fill_exact)

pub detail_lawful : Lawful 1 detail
detail_lawful = detail_exact.lawful

pub detail_delimited : Delimited 1 detail
detail_delimited = after_delimited 95 (before 95 line_and_fill) (before_delimited 95 line_and_fill line_and_fill_open λ v rest ok. line_and_fill_ends v rest)

-- ZOOMS

pub figure_strict : Strict 1 (digit 0 9)
figure_strict = digit_strict 0 9 (omega arith) (omega arith)

pub figure_delimited : Delimited 1 (digit 0 9)
figure_delimited = figure_strict.delimited

pub more_figures_exact : Exact 1 (many (digit 0 9))
more_figures_exact = many_exact 1 (digit 0 9) figure_strict.exact (solid 1 (digit 0 9) figure_delimited)

pub figures_exact : Exact 1 figures
figures_exact = sequence_exact 1 (digit 0 9) (λ d. many (digit 0 9)) figure_strict.exact λ d ok. more_figures_exact

pub figures_lawful : Lawful 1 figures
figures_lawful = figures_exact.lawful

pub figures_open : Open 1 figures
figures_open =
    let o = delimited_open 1 (digit 0 9) figure_delimited in
    sequence_open 1 (digit 0 9) (λ d. many (digit 0 9)) o (λ d ok. many_firm 1 (digit 0 9) o) λ d ok. more_figures_exact.lawful

pub cents_exact : Exact 1 (optional (after 46 figures))
cents_exact = optional_exact 1 (after 46 figures) (after_exact 46 figures figures_exact)

pub decimal_exact : Exact 1 decimal
decimal_exact = sequence_exact 1 figures (λ whole. optional (after 46 figures)) figures_exact λ whole ok. cents_exact

pub decimal_open : Open 1 decimal
decimal_open =
    sequence_open 1 figures (λ whole. optional (after 46 figures)) figures_open
    (λ whole ok. optional_firm (after 46 figures) (after_firm 46 figures figures_open.firm)) λ whole ok. cents_exact.lawful

pub decimal_lawful : Lawful 1 decimal
decimal_lawful = decimal_exact.lawful

-- STYLES OF SYMBOLS

pub two_digits_strict : Strict 1 two_digits
two_digits_strict = digits_strict (10 ∷ []) 0 99 (omega arith) (omega arith, omega arith, omega arith)

pub two_digits_delimited : Delimited 1 two_digits
two_digits_delimited = two_digits_strict.delimited

pub symbol_colours_exact : Exact 1 symbol_colours
symbol_colours_exact =
    after_exact 68 (sequence two_digits λ n. detail) (sequence_exact 1 two_digits (λ n. detail) two_digits_strict.exact λ n ok. detail_exact)

pub symbol_colours_delimited : Delimited 1 symbol_colours
symbol_colours_delimited =
    after_delimited 68 (sequence two_digits λ n. detail) (sequence_delimited 1 two_digits (λ n. detail) two_digits_delimited λ n ok. detail_delimited)

pub symbol_colours_open : Open 1 symbol_colours
symbol_colours_open = delimited_open 1 symbol_colours symbol_colours_delimited

pub symbol_zoom_exact : Exact 1 symbol_zoom
symbol_zoom_exact =
    after_exact 90 (sequence two_digits λ n. after 44 decimal)
    (sequence_exact 1 two_digits (λ n. after 44 decimal) two_digits_strict.exact λ n ok. after_exact 44 decimal decimal_exact)

pub symbol_zoom_open : Open 1 symbol_zoom
symbol_zoom_open =
    after_open 90 (sequence two_digits λ n. after 44 decimal)
    (sequence_exact 1 two_digits (λ n. after 44 decimal) two_digits_strict.exact (λ n ok. after_exact 44 decimal decimal_exact)).lawful
    (sequence_firm 1 two_digits (λ n. after 44 decimal) two_digits_delimited.lawful (solid 1 two_digits two_digits_delimited) two_digits_delimited.firm λ n ok. after_firm 44 decimal decimal_open.firm)

pub many_colours_exact : Exact 1 (many symbol_colours)
many_colours_exact = many_exact 1 symbol_colours symbol_colours_exact λ v ok. omega arith

pub many_zooms_exact : Exact 1 (many symbol_zoom)
many_zooms_exact = many_exact 1 symbol_zoom symbol_zoom_exact λ v ok. omega arith

pub symbols_exact : Exact 1 symbols
symbols_exact = sequence_exact 1 (many symbol_colours) (λ l. many symbol_zoom) many_colours_exact λ l ok. many_zooms_exact

-- THE STYLING STRING

-- what stands after the dash
abbrev pub spelling : Format Spelling
spelling = mapped parts to_spelling of_spelling λ t. parts.Valid (of_spelling t)

part_exact : {A : Type 0} (b : ℕ) (f : Format A) → Exact 1 f → Exact 1 (optional (after b f))
part_exact b f l = optional_exact 1 (after b f) (after_exact b f l)

pub from_symbols_exact : Exact 1 from_symbols
from_symbols_exact = part_exact 45 symbols symbols_exact

pub from_zoom_exact : Exact 1 from_zoom
from_zoom_exact = sequence_exact 1 (optional (after 90 decimal)) (λ z. from_symbols) (part_exact 90 decimal decimal_exact) λ z ok. from_symbols_exact

pub from_detail_exact : Exact 1 from_detail
from_detail_exact = sequence_exact 1 (optional (after 68 detail)) (λ d. from_zoom) (part_exact 68 detail detail_exact) λ d ok. from_zoom_exact

pub from_background_exact : Exact 1 from_background
from_background_exact = sequence_exact 1 (optional (after 71 background)) (λ g. from_detail) (part_exact 71 background background_exact) λ g ok. from_detail_exact

pub from_padding_exact : Exact 1 from_padding
from_padding_exact =
    sequence_exact 1 (optional (after 80 two_digits)) (λ p. from_background) (part_exact 80 two_digits two_digits_strict.exact) λ p ok. from_background_exact

pub parts_exact : Exact 1 parts
parts_exact = sequence_exact 1 (optional (byte 67)) (λ c. from_padding) (optional_exact 1 (byte 67) (byte_exact 67)) λ c ok. from_padding_exact

pub spelling_inverse : Inverse parts to_spelling of_spelling (λ t. parts.Valid (of_spelling t))
spelling_inverse = record { good = λ p ok. ok; back = λ p ok. refl; sound = λ t ok. ok; forth = λ t ok. refl }

pub spelling_exact : Exact 1 spelling
spelling_exact = mapped_exact 1 parts to_spelling of_spelling (λ t. parts.Valid (of_spelling t)) parts_exact spelling_inverse

pub styling_exact : Exact 1 styling
styling_exact = after_exact 45 spelling spelling_exact

pub styling_lawful : Lawful 1 styling
styling_lawful = styling_exact.lawful

-- WHAT MAY FOLLOW A ZOOM

-- what ends a number: a byte that is no digit
abbrev NoFigure : List ℕ → Type 0
NoFigure [] = Unit
NoFigure (x ∷ t) = digit_of x ≡ 16

figure_absent : (text : List ℕ) → NoFigure text → Absent text ((digit 0 9).read text)
figure_absent [] n = tt
figure_absent (x ∷ t) n =
    absent_other (x ∷ t) (unit_above 1 (byte_of digit_of) (λ d. digit_byte d ∷ []) 0 9 (x ∷ []) t refl (omega arith) (omega (arith, n)))

many_figures : (l : List ℕ) (rest : List ℕ) → NoFigure rest → FollowAll (digit 0 9) l rest
many_figures [] rest n = figure_absent rest n
many_figures (d ∷ l) rest n = (many_figures l rest n, tt)

figures_follow : (v : Figures) (rest : List ℕ) → NoFigure rest → figures.Follow v rest
figures_follow v rest n = (many_figures v.1 rest n, tt)

-- after a zoom comes a dash, a Z or the end
abbrev AfterZoom : List ℕ → Type 0
AfterZoom [] = Unit
AfterZoom (x ∷ t) = (x ≡ 45) ⊎ (x ≡ 90)

neither : (x : ℕ) → (x ≡ 45) ⊎ (x ≡ 90) → (digit_of x ≡ 16) × (x ≡ 46 → ⊥)
unfolding digit_of
neither x (inl e) = (ap digit_of e, λ z. omega (arith, e, z))
neither x (inr e) = (ap digit_of e, λ z. omega (arith, e, z))

no_figure : (text : List ℕ) → AfterZoom text → NoFigure text
no_figure [] k = tt
no_figure (x ∷ t) k = (neither x k).0

no_point : (text : List ℕ) → AfterZoom text → Not 46 text
no_point [] k = tt
no_point (x ∷ t) k = (neither x k).1

point_figure : digit_of 46 ≡ 16
unfolding digit_of
point_figure = refl

decimal_follow : (v : Decimal) (rest : List ℕ) → decimal.Valid v → AfterZoom rest → decimal.Follow v rest
decimal_follow v rest ok k = (
  part_follow 46 figures v.1 rest ok.1 (no_point rest k) (λ a z. figures_follow a rest (no_figure rest k)),
  figures_follow v.0 ((optional (after 46 figures)).write v.1 ++ rest) (go v.1),
)
  where
    go : (o : Option Figures) → NoFigure ((optional (after 46 figures)).write o ++ rest)
    go none = no_figure rest k
    go (some a) = point_figure

-- WHAT MAY FOLLOW A STYLE OF A SYMBOL

colours_follow : (l : List (ℕ × Detail)) (rest : List ℕ) → (many symbol_colours).Valid l → Not 68 rest → FollowAll symbol_colours l rest
colours_follow [] rest ok n = after_absent 68 (sequence two_digits λ n. detail) rest n
colours_follow (a ∷ l) rest ok n =
    (colours_follow l rest ok.1 n, symbol_colours_delimited.free a ((many symbol_colours).write l ++ rest) ok.0)

after_zooms : (l : List (ℕ × Decimal)) → AfterZoom ((many symbol_zoom).write l ++ [])
after_zooms [] = tt
after_zooms (a ∷ l) = inr refl

zooms_follow : (l : List (ℕ × Decimal)) → (many symbol_zoom).Valid l → FollowAll symbol_zoom l []
zooms_follow [] ok = tt
zooms_follow (a ∷ l) ok =
    let rest = (many symbol_zoom).write l ++ [] in
    (zooms_follow l ok.1, (((decimal_follow a.1 rest ok.0.1 (after_zooms l), tt), two_digits_delimited.free a.0 ((after 44 decimal).write a.1 ++ rest) ok.0.0), tt))

zooms_not : (l : List (ℕ × Decimal)) → Not 68 ((many symbol_zoom).write l ++ [])
zooms_not [] = tt
zooms_not (a ∷ l) = λ e. omega (arith, e)

symbols_follow : (v : Symbols) → symbols.Valid v → symbols.Follow v []
symbols_follow v ok = (zooms_follow v.1 ok.1, colours_follow v.0 ((many symbol_zoom).write v.1 ++ []) ok.0 (zooms_not v.1))

-- WHAT MAY FOLLOW EACH PART, up to the end of the string

-- no later part begins as an earlier one
module _ (c : ℕ) (n45 : 45 ≡ c → ⊥) where
  symbols_not : (s : Option Symbols) → Not c (from_symbols.write s ++ [])
  symbols_not s = part_not 45 c symbols s [] n45 tt

  module _ (n90 : 90 ≡ c → ⊥) where
    zoom-not : (v : Option Decimal × Option Symbols) → Not c (from_zoom.write v ++ [])
    zoom-not v =
        rw (append_assoc ((optional (after 90 decimal)).write v.0) (from_symbols.write v.1) [])
        (part_not 90 c decimal v.0 (from_symbols.write v.1 ++ []) n90 (symbols_not v.1))

    module _ (n68 : 68 ≡ c → ⊥) where
      detail-not : (v : Option Detail × (Option Decimal × Option Symbols)) → Not c (from_detail.write v ++ [])
      detail-not v =
          rw (append_assoc ((optional (after 68 detail)).write v.0) (from_zoom.write v.1) [])
          (part_not 68 c detail v.0 (from_zoom.write v.1 ++ []) n68 (zoom-not v.1))

      module _ (n71 : 71 ≡ c → ⊥) where
        background-not : (v : Option (List ℕ) × (Option Detail × (Option Decimal × Option Symbols))) → Not c (from_background.write v ++ [])
        background-not v =
            rw (append_assoc ((optional (after 71 background)).write v.0) (from_detail.write v.1) [])
            (part_not 71 c background v.0 (from_detail.write v.1 ++ []) n71 (detail-not v.1))

        padding-not : (80 ≡ c → ⊥) → (v : Option ℕ × (Option (List ℕ) × (Option Detail × (Option Decimal × Option Symbols)))) → Not c (from_padding.write v ++ [])
        padding-not n80 v =
            rw (append_assoc ((optional (after 80 two_digits)).write v.0) (from_background.write v.1) [])
            (part_not 80 c two_digits v.0 (from_background.write v.1 ++ []) n80 (background-not v.1))

symbols_after_zoom : (s : Option Symbols) → AfterZoom (from_symbols.write s ++ [])
symbols_after_zoom none = tt
symbols_after_zoom (some s) = inl refl

from_symbols_follow : (s : Option Symbols) → from_symbols.Valid s → from_symbols.Follow s []
from_symbols_follow none ok = tt
from_symbols_follow (some s) ok = (symbols_follow s ok, tt)

from_zoom_follow : (v : Option Decimal × Option Symbols) → from_zoom.Valid v → from_zoom.Follow v []
from_zoom_follow v ok =
    let rest = from_symbols.write v.1 ++ [] in (
      from_symbols_follow v.1 ok.1,
      part_follow 90 decimal v.0 rest ok.0 (symbols_not 90 (λ e. omega arith) v.1) (λ a k. decimal_follow a rest k (symbols_after_zoom v.1)),
    )

from_detail_follow : (v : Option Detail × (Option Decimal × Option Symbols)) → from_detail.Valid v → from_detail.Follow v []
from_detail_follow v ok =
    let rest = from_zoom.write v.1 ++ [] in (
      from_zoom_follow v.1 ok.1,
      part_follow 68 detail v.0 rest ok.0 (zoom-not 68 (λ e. omega arith) (λ e. omega arith) v.1) (λ a k. detail_delimited.free a rest k),
    )

from_background_follow : (v : Option (List ℕ) × (Option Detail × (Option Decimal × Option Symbols))) → from_background.Valid v → from_background.Follow v []
from_background_follow v ok =
    let rest = from_detail.write v.1 ++ [] in (
      from_detail_follow v.1 ok.1,
      part_follow 71 background v.0 rest ok.0 (detail-not 71 (λ e. omega arith) (λ e. omega arith) (λ e. omega arith) v.1)
          (λ a k. background_delimited.free a rest k),
    )

from_padding_follow : (v : Option ℕ × (Option (List ℕ) × (Option Detail × (Option Decimal × Option Symbols)))) → from_padding.Valid v → from_padding.Follow v []
from_padding_follow v ok =
    let rest = from_background.write v.1 ++ [] in (
      from_background_follow v.1 ok.1,
      part_follow 80 two_digits v.0 rest ok.0 (background-not 80 (λ e. omega arith) (λ e. omega arith) (λ e. omega arith) (λ e. omega arith) v.1)
          (λ a k. two_digits_delimited.free a rest k),
    )

colorize_follow : (c : Option ℕ) (rest : List ℕ) → Not 67 rest → (optional (byte 67)).Follow c rest
colorize_follow none rest n = byte_absent 67 rest n
colorize_follow (some c) rest n = tt

pub styling_ready : (t : Spelling) → styling.Valid t → styling.Follow t []
styling_ready t ok =
    let p : Option ℕ × (Option (List ℕ) × (Option Detail × (Option Decimal × Option Symbols))) = (t.padding, (t.background, (t.detail, (t.zoom, t.symbols)))) in (
      (
        from_padding_follow p ok.1,
        colorize_follow t.colorize (from_padding.write p ++ [])
            (padding-not 67 (λ e. omega arith) (λ e. omega arith) (λ e. omega arith) (λ e. omega arith) (λ e. omega arith) p),
      ),
      tt,
    )
