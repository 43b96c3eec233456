-- A symbol by itself.
use Rattle.std.specs.Prelude.{ℕ}
use Rattle.format.specs.Format.{Format}
use Rattle.charset.specs.declared.Charset.{Charset}
use Rattle.charset.specs.Tokens.{tokens, last_punctuation}

-- any symbol, null among them: its key in FSW and its character in SWU
abbrev pub any_symbol : Charset → Format ℕ
any_symbol set = (tokens set).symbol_or_null last_punctuation
