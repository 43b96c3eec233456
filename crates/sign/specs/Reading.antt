-- What reading a sign answers: the record with its arrays, or zeros beside the refusal.
use Rattle.std.specs.Prelude.{Result as Answer, Ok, Err, ℕ, List, map, length}
use Rattle.charset.specs.declared.Charset.{Charset}
use Rattle.grammar.specs.Sign.{Meaning}
use Rattle.grammar.specs.Offsets.{prefix_offsets, symbol_offsets}
use Rattle.token.specs.declared.refusal.Refusal.{Refusal}
use Rattle.token.specs.Refusal.{number_of, place_of}
use Rattle.token.specs.Result.{Result, refusal, done}
use Rattle.token.specs.Padded.{padded, zeros}
use Rattle.reader.specs.Signs.{sign_of}
use Rattle.sign.specs.declared.Sign.{Sign}

-- what a reading answers, as numbers: the sign, and zeros where it is refused
pub record Reading : Type 0 where
  pub number : ℕ
  pub place : ℕ
  pub sign : Sign

-- a sign read in a character set: what it means, and where its symbols stand in the text
abbrev pub packed : Charset → Meaning → Sign
packed set m = record {
  marker = m.marker;
  max_x = m.x;
  max_y = m.y;
  prefix_count = length m.prefix;
  symbol_count = length m.symbols;
  prefix = padded 32 m.prefix;
  codes = padded 64 (map (λ s. s.code) m.symbols);
  xs = padded 64 (map (λ s. s.x) m.symbols);
  ys = padded 64 (map (λ s. s.y) m.symbols);
  prefix_offsets = padded 32 (prefix_offsets set (length m.prefix));
  symbol_offsets = padded 64 (symbol_offsets set (length m.prefix) (length m.symbols));
}

abbrev pub no_sign : Sign
no_sign = record {
  marker = 0;
  max_x = 0;
  max_y = 0;
  prefix_count = 0;
  symbol_count = 0;
  prefix = zeros 32;
  codes = zeros 64;
  xs = zeros 64;
  ys = zeros 64;
  prefix_offsets = zeros 32;
  symbol_offsets = zeros 64;
}

unfoldable pub reading_of : Charset → Result Meaning → Reading
reading_of set (refusal number place) = record { number = number; place = place; sign = no_sign }
reading_of set (done m) = record { number = 0; place = 0; sign = packed set m }

-- and by the function that reads it
abbrev pub as_reading : Answer Sign Refusal → Reading
as_reading (Ok sign) = record { number = 0; place = 0; sign = sign }
as_reading (Err e) = record { number = number_of e; place = place_of e; sign = no_sign }

-- what reading a text answers
abbrev pub reading_in : Charset → List ℕ → Reading
reading_in set text = reading_of set (sign_of set text)
