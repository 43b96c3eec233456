-- A sign that was read into memory, and places for its offsets.
use Rattle.std.specs.Prelude.{◌≡◌, ℕ, ◌+◌, ◌-◌, ◌≤◌, List, length, take, drop}
use Rattle.charset.specs.declared.Charset.{Charset}
use Rattle.grammar.specs.Offsets.{prefix_offsets, symbol_offsets}
use Rattle.token.specs.Padded.{padded, zeros}
use Rattle.grammar.specs.declared.Head.{Head}
use Rattle.grammar.specs.declared.Symbols.{Symbols}
use Rattle.sign.specs.declared.Sign.{Sign}

abbrev pub sign_in : Charset → Head → Symbols → Sign
sign_in set h symbols = record {
  marker = h.marker;
  max_x = h.max_x;
  max_y = h.max_y;
  prefix_count = h.prefix_count;
  symbol_count = h.symbol_count;
  prefix = symbols.prefix;
  codes = symbols.codes;
  xs = symbols.xs;
  ys = symbols.ys;
  prefix_offsets = padded 32 (prefix_offsets set h.prefix_count);
  symbol_offsets = padded 64 (symbol_offsets set h.prefix_count h.symbol_count);
}

-- so many places from `at` on are there, and hold zeros
pub record Cleared (array : List ℕ) (at room : ℕ) : Type 0 where
  pub fits : at + room ≤ length array
  pub is : take room (drop at array) ≡ zeros room

-- an array that holds n numbers and then zeros
pub record Counting (n : ℕ) (array : List ℕ) : Type 0 where
  pub most : n ≤ length array
  pub rest : drop n array ≡ zeros (length array - n)

-- counts within the limits
pub record Counted (h : Head) : Type 0 where
  pub prefix : h.prefix_count ≤ 32
  pub symbols : h.symbol_count ≤ 64

-- the symbols of a sign, as many as its counts say
pub record Laid (h : Head) (symbols : Symbols) : Type 0 where
  pub counted : Counted h
  pub prefix : Counting h.prefix_count symbols.prefix
  pub codes : Counting h.symbol_count symbols.codes
  pub xs : Counting h.symbol_count symbols.xs
  pub ys : Counting h.symbol_count symbols.ys
