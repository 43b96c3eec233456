-- Document 01, "Symbols and numbers": symbols, numbers and markers in both character sets.
use Rattle.std.specs.Prelude.{ℕ, zero, suc, ◌+◌, ◌-◌, ◌*◌, ◌/◌, ◌%◌, [], ◌∷◌, ◌⊎◌}
use Prim.Native.Char.{code}
use Rattle.std.proofs.Common.{inl, inr}
use Rattle.format.specs.Format.{Format, sequence, mapped, either, atomic}
use Rattle.format.specs.Numeral.{Range}
use Rattle.charset.specs.declared.Charset.{Charset}
use Rattle.charset.specs.declared.Charset.TheVariants.{Fsw, Swu}
use Rattle.charset.specs.Bytes.{digits, letter, after, character}

-- The classes of symbols are given by their last base: each class takes in those before it.
abbrev pub last_writing : ℕ
last_writing = 0x37e

abbrev pub last_location : ℕ
last_location = 0x386

abbrev pub last_punctuation : ℕ
last_punctuation = 0x38b

-- the last code of the symbols up to a base
abbrev pub last_code : ℕ → ℕ
last_code top = (top - 0xff) * 96

-- base, fill (0 to 5) and rotation (0 to f): the base in three hexadecimal digits, fill and rotation as 00 to 5f
abbrev pub base : ℕ → ℕ → Format ℕ
base lo hi = digits (256 ∷ 16 ∷ []) lo hi

abbrev pub turn : ℕ → Format ℕ
turn hi = digits (16 ∷ []) 0 hi

abbrev pub key_of : ℕ × ℕ → ℕ
key_of p = (p.0 - 0x100) * 96 + p.1 + 1

abbrev pub parts_of : ℕ → ℕ × ℕ
parts_of code = (0x100 + (code - 1) / 96, (code - 1) % 96)

-- what follows the S of a symbol key with a base of 100 to top, as the symbol's code
abbrev pub key : ℕ → Format ℕ
key top = mapped (sequence (base 0x100 top) λ b. turn 0x5f) key_of parts_of (Range 1 (last_code top))

-- what follows the S of the null symbol, whose code is 0
abbrev pub null : Format ℕ
null = mapped (sequence (base 0 0) λ b. turn 0) (λ p. 0) (λ code. (0, 0)) (λ code. Range 0 0 code)

abbrev pub of_either : ℕ ⊎ ℕ → ℕ
of_either (inl a) = a
of_either (inr b) = b

abbrev pub to_either : ℕ → ℕ ⊎ ℕ
to_either zero = inl 0
to_either (suc n) = inr (suc n)

abbrev pub null_or_key : ℕ → Format ℕ
null_or_key top = mapped (either null (key top)) of_either to_either (Range 0 (last_code top))

abbrev pub fsw_number : Format ℕ
fsw_number = digits (100 ∷ 10 ∷ []) 250 749

-- The tokens of a character set. A coordinate is a first and a second number.
pub record Tokens : Type 1 where
  -- the bytes of a unit, by which places are counted
  pub unit : ℕ
  -- a marker of lo to hi: A, B, L, M, R are 0 to 4
  pub marker : ℕ → ℕ → Format ℕ
  -- a symbol with a base of at most top, as its code; null is code 0
  pub symbol : ℕ → Format ℕ
  pub symbol_or_null : ℕ → Format ℕ
  pub number : Format ℕ
  pub second : Format ℕ
  -- the bytes of each
  pub marker_size : ℕ
  pub symbol_size : ℕ
  pub number_size : ℕ
  pub second_size : ℕ

-- FSW, by the format of its coordinate numbers
abbrev pub fsw_with : Format ℕ → Tokens
fsw_with number = record {
  unit = 1;
  marker = letter;
  symbol = λ top. after (code "S") (key top);
  symbol_or_null = λ top. after (code "S") (null_or_key top);
  number = number;
  second = after (code "x") number;
  marker_size = 1;
  symbol_size = 6;
  number_size = 3;
  second_size = 4;
}

-- document 02, Q-5: a wrong number is told at its first byte
abbrev pub fsw : Tokens
fsw = fsw_with (atomic fsw_number)

abbrev pub swu_number : Format ℕ
swu_number = character (0x1d80c - 250) 250 749

abbrev pub swu : Tokens
swu = record {
  unit = 4;
  marker = character 0x1d800;
  symbol = λ top. character 0x40000 1 (last_code top);
  symbol_or_null = λ top. character 0x40000 0 (last_code top);
  number = swu_number;
  second = swu_number;
  marker_size = 4;
  symbol_size = 4;
  number_size = 4;
  second_size = 4;
}

abbrev pub tokens : Charset → Tokens
tokens Fsw = fsw
tokens Swu = swu
