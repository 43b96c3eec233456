-- The numbers that a symbol key is made of.
use Rattle.std.specs.Prelude.{ℕ, zero, suc}
use Rattle.charset.specs.Tokens.{parts_of}

-- base and turn of a code, both zero for null
abbrev pub key_parts : ℕ → ℕ × ℕ
key_parts zero = (0, 0)
key_parts (suc n) = parts_of (suc n)
