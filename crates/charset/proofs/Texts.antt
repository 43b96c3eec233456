-- A token's text does not depend on the limits that its format is given.
use Prim.Native.Nat.{ℕ, zero, suc, ◌≤◌}
use mathlib.Core.Path.{◌≡◌, refl}
use native.Mathlib.Omega.{arith}
use Rattle.charset.specs.declared.Charset.{Charset}
use Rattle.charset.specs.declared.Charset.TheVariants.{Fsw, Swu}
use Rattle.charset.specs.Tokens.{tokens, last_punctuation}

pub marker_text : (set : Charset) (lo hi m : ℕ) → ((tokens set).marker 0 4).write m ≡ ((tokens set).marker lo hi).write m
marker_text Fsw lo hi m = refl
marker_text Swu lo hi m = refl

pub null_or_symbol_text : (set : Charset) (top code : ℕ) → ((tokens set).symbol_or_null last_punctuation).write code ≡ ((tokens set).symbol_or_null top).write code
null_or_symbol_text Fsw top zero = refl
null_or_symbol_text Fsw top (suc n) = refl
null_or_symbol_text Swu top code = refl

pub symbol_text_lem : (set : Charset) (top code : ℕ) → 1 ≤ code → ((tokens set).symbol_or_null last_punctuation).write code ≡ ((tokens set).symbol top).write code
symbol_text_lem Fsw top zero h = absurd (omega arith)
symbol_text_lem Fsw top (suc n) h = refl
symbol_text_lem Swu top code h = refl
