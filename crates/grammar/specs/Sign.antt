-- Document 01, "A sign": what a sign means, and how it is written in each character set.
use Rattle.std.specs.Prelude.{ℕ, List, [], ◌∷◌, map}
use Rattle.std.proofs.Math.Option.{Option, none, some}
use Rattle.format.specs.Format.{Format, All, sequence, mapped, optional, many}
use Rattle.format.specs.Numeral.{Range}
use Rattle.format.specs.Places.{Outcome, reading}
use Rattle.charset.specs.declared.Charset.{Charset}
use Rattle.charset.specs.Tokens.{Tokens, tokens, last_writing, last_location, last_code}

-- What a sign means. A spatial symbol is a symbol with its coordinate (document 000, 1.3.2).
pub record Spatial : Type 0 where
  pub code : ℕ
  pub x : ℕ
  pub y : ℕ

-- The marker is 1 to 4 for B, L, M, R; x and y are the maximum as stated; no prefix is an empty one.
pub record Meaning : Type 0 where
  pub prefix : List ℕ
  pub marker : ℕ
  pub x : ℕ
  pub y : ℕ
  pub symbols : List Spatial

abbrev pub Number : ℕ → Type 0
Number = Range 250 749

abbrev pub ValidSymbol : Spatial → Type 0
ValidSymbol s = Range 1 (last_code last_writing) s.code × (Number s.x × Number s.y)

-- what can be said: the limits of 32 and 64 symbols are no part of the grammar
pub record Valid (m : Meaning) : Type 0 where
  pub prefix : All (Range 0 (last_code last_location)) m.prefix
  pub marker : Range 1 4 m.marker
  pub maximum : Number m.x × Number m.y
  pub symbols : All ValidSymbol m.symbols

-- How a sign is written, over the tokens of a character set.
module _ (t : Tokens) where
  abbrev pub point : Format (ℕ × ℕ)
  point = sequence t.number λ x. t.second

  -- a token with a coordinate
  abbrev pub placed : Format ℕ → Format (ℕ × (ℕ × ℕ))
  placed f = sequence f λ v. point

  -- A, and one or more of null, writing or location symbols
  abbrev pub prefix_symbol : Format ℕ
  prefix_symbol = t.symbol_or_null last_location

  abbrev pub prefix_symbols : Format (ℕ × List ℕ)
  prefix_symbols = sequence prefix_symbol λ first. many prefix_symbol

  abbrev pub prefix : Format (ℕ × (ℕ × List ℕ))
  prefix = sequence (t.marker 0 0) λ a. prefix_symbols

  -- one of B, L, M, R with the maximum coordinate, and zero or more writing symbols each with its coordinate
  abbrev pub lead : Format (ℕ × (ℕ × ℕ))
  lead = placed (t.marker 1 4)

  abbrev pub spatial : Format (ℕ × (ℕ × ℕ))
  spatial = placed (t.symbol last_writing)

  abbrev pub signbox : Format ((ℕ × (ℕ × ℕ)) × List (ℕ × (ℕ × ℕ)))
  signbox = sequence lead λ h. many spatial

  abbrev pub parts : Format (Option (ℕ × (ℕ × List ℕ)) × ((ℕ × (ℕ × ℕ)) × List (ℕ × (ℕ × ℕ))))
  parts = sequence (optional prefix) λ p. signbox

-- The parts as they are written, and the meaning.
abbrev pub Parts : Type 0
Parts = Option (ℕ × (ℕ × List ℕ)) × ((ℕ × (ℕ × ℕ)) × List (ℕ × (ℕ × ℕ)))

abbrev pub to_spatial : ℕ × (ℕ × ℕ) → Spatial
to_spatial p = record { code = p.0; x = p.1.0; y = p.1.1 }

abbrev pub of_spatial : Spatial → ℕ × (ℕ × ℕ)
of_spatial s = (s.code, (s.x, s.y))

abbrev pub to_prefix : Option (ℕ × (ℕ × List ℕ)) → List ℕ
to_prefix none = []
to_prefix (some p) = p.1.0 ∷ p.1.1

abbrev pub of_prefix : List ℕ → Option (ℕ × (ℕ × List ℕ))
of_prefix [] = none
of_prefix (a ∷ l) = some (0, (a, l))

abbrev pub to_meaning : Parts → Meaning
to_meaning p = record {
  prefix = to_prefix p.0;
  marker = p.1.0.0;
  x = p.1.0.1.0;
  y = p.1.0.1.1;
  symbols = map to_spatial p.1.1;
}

abbrev pub of_meaning : Meaning → Parts
of_meaning m = (of_prefix m.prefix, ((m.marker, (m.x, m.y)), map of_spatial m.symbols))

-- THE SIGN, once for both character sets
abbrev pub sign_with : Tokens → Format Meaning
sign_with t = mapped (parts t) to_meaning of_meaning Valid

abbrev pub sign : Charset → Format Meaning
sign set = sign_with (tokens set)

-- the text of a sign
abbrev pub sign_text : Charset → Meaning → List ℕ
sign_text set m = (sign set).write m

-- reading a whole text as a sign
abbrev pub read_sign : Charset → List ℕ → Outcome Meaning
read_sign set text = reading (tokens set).unit (sign set) text
