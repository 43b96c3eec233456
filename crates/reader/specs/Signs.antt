-- What a text says as a sign, within the limits.
use Rattle.std.specs.Prelude.{ℕ, List, leb, length}
use Rattle.charset.specs.declared.Charset.{Charset}
use Rattle.grammar.specs.Sign.{Meaning, read_sign}
use Rattle.token.specs.Refusal.{prefix_long, signbox_long}
use Rattle.token.specs.Result.{Result, done, check, and_then, of_outcome}

-- at most 32 prefix symbols and 64 signbox symbols
abbrev pub within_limits : Meaning → Result Meaning
within_limits m =
    check (leb (length m.prefix) 32) prefix_long 0
    (check (leb (length m.symbols) 64) signbox_long 0
    (done m))

unfoldable pub sign_of : Charset → List ℕ → Result Meaning
sign_of set text = and_then (of_outcome (length text) (read_sign set text)) within_limits
