-- Document 01, "Boxes, shifting, centring": what is written of a sign that is shifted, and of one that is centred.
use Rattle.std.specs.Prelude.{ℕ, ◌/◌, Bool, ◌&&◌, List, ◌∷◌, map, ℤ, pos, ◌+ℤ◌, nat_abs}
use Rattle.std.proofs.Math.IntN.{sub_ℕ}
use Rattle.std.specs.Int.Signed.{le_z}
use Rattle.format.specs.Format.{every}
use Rattle.charset.specs.declared.Charset.{Charset}
use Rattle.grammar.specs.Sign.{Spatial, Meaning, sign_text}
use Rattle.token.specs.Refusal.{number_outside}
use Rattle.token.specs.Result.{Result, done, on_done, check, and_then}
use Rattle.reader.specs.Signs.{sign_of}
use Rattle.bounds.specs.declared.groups.Groups.{Groups}
use Rattle.bounds.specs.Sizes.{measured}
use Rattle.bounds.specs.Centre.{all, box_of, doubled_of}

-- a number that is moved, and whether it stays in 250 to 749
abbrev pub moved_number : ℤ → ℕ → ℕ
moved_number by n = nat_abs (pos n +ℤ by)

abbrev pub is_number : ℤ → Bool
is_number z = le_z (pos 250) z && le_z z (pos 749)

abbrev pub stays : ℤ → ℕ → Bool
stays by n = is_number (pos n +ℤ by)

-- the numbers of each axis: the maximum's, and those of the symbols
abbrev pub xs_of : Meaning → List ℕ
xs_of m = m.x ∷ map (λ s. s.x) m.symbols

abbrev pub ys_of : Meaning → List ℕ
ys_of m = m.y ∷ map (λ s. s.y) m.symbols

abbrev pub moved_symbol : ℤ → ℤ → Spatial → Spatial
moved_symbol dx dy s = record { code = s.code; x = moved_number dx s.x; y = moved_number dy s.y }

abbrev pub moved_meaning : ℤ → ℤ → Meaning → Meaning
moved_meaning dx dy m = record {
  prefix = m.prefix;
  marker = m.marker;
  x = moved_number dx m.x;
  y = moved_number dy m.y;
  symbols = map (moved_symbol dx dy) m.symbols;
}

-- Every coordinate and the maximum are moved: refused as 10 if any number leaves 250 to 749.
unfoldable pub moved_sign : ℤ → ℤ → Meaning → Result Meaning
moved_sign dx dy m = check (every (stays dx) (xs_of m) && every (stays dy) (ys_of m)) number_outside 0 (done (moved_meaning dx dy m))

-- SHIFTING: the text in the character set that was read
unfoldable pub shifted_text : Charset → List ℕ → ℤ → ℤ → Result (List ℕ)
shifted_text set text dx dy = on_done (sign_text set) (and_then (sign_of set text) (moved_sign dx dy))

-- what an axis moves by: 500 minus the centre rounded down, a whole number with its sign
abbrev pub to_middle : ℕ → ℤ
to_middle doubled = sub_ℕ 500 (doubled / 2)

-- the whole box's maximum as the stated one, whatever it was
abbrev pub restated : Groups → Meaning → Meaning
restated g m = record {
  prefix = m.prefix;
  marker = m.marker;
  x = (box_of g all).right;
  y = (box_of g all).bottom;
  symbols = m.symbols;
}

abbrev pub centred_by : Meaning → Groups → Result Meaning
centred_by m g = moved_sign (to_middle (doubled_of g).x) (to_middle (doubled_of g).y) (restated g m)

unfoldable pub centred_sign : List ℕ → Meaning → Result Meaning
centred_sign sizes m = and_then (measured sizes m.symbols) (centred_by m)

-- CENTRING
unfoldable pub centred_text : Charset → List ℕ → List ℕ → Result (List ℕ)
centred_text set text sizes = on_done (sign_text set) (and_then (sign_of set text) (centred_sign sizes))
