-- The digits of a number, the parts of a symbol key, and the length of a symbol.
use Prim.Native.Nat.{ℕ, zero, suc, ◌*◌, ◌/◌, ◌%◌, ◌≤◌, ◌<◌}
use mathlib.Core.Path.{◌≡◌, refl, sym, ap}
use mathlib.Core.List.{[], ◌∷◌, ◌++◌}
use native.Mathlib.Nat.{mod-lt, div-lt_iff_lt-mul}
use native.Mathlib.Omega.{arith}
use lib.ListN.{length}
use Rattle.charset.specs.Bytes.{digits}
use Rattle.charset.specs.declared.Charset.{Charset}
use Rattle.charset.specs.declared.Charset.TheVariants.{Fsw, Swu}
use Rattle.charset.specs.Tokens.{tokens, last_punctuation}
use Rattle.charset.proofs.Keys.{null_or_key_size}
use Rattle.token.specs.Symbol.{any_symbol}
use Rattle.writer.specs.Keys.{key_parts}

pub first_digit : {n p : ℕ} → 0 < p → n < 16 * p → n / p < 16
first_digit z h = (div-lt_iff_lt-mul z).1 h

-- base and turn of a code, and what they spell
pub record Parts (code b t : ℕ) : Type 0 where
  pub base : b < 4096
  pub turn : t < 256
  pub text : 83 ∷ ((digits (256 ∷ 16 ∷ []) 0 0).write b ++ (digits (16 ∷ []) 0 0).write t) ≡ (any_symbol Fsw).write code

pub parts_spell : (code : ℕ) → code ≤ 62592 → Parts code (key_parts code).0 (key_parts code).1
parts_spell zero h = record { base = omega arith; turn = omega arith; text = refl }
parts_spell (suc n) h = record { base = omega arith; turn = omega arith; text = refl }

pub symbol_length : (set : Charset) (code : ℕ) → (tokens set).symbol_size ≡ length ((any_symbol set).write code)
symbol_length Fsw code = ap suc (sym (null_or_key_size last_punctuation code))
symbol_length Swu code = refl
