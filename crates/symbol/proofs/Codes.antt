-- The text of a code.
use Prim.Native.Nat.{ℕ, ◌≤◌, ◌<◌}
use mathlib.Core.Path.{◌≡◌}
use borrow.Author.Tests.{lt-ltb, le-ltb}
use Rattle.charset.specs.declared.Charset.{Charset}
use Rattle.token.specs.Refusal.{code_wrong}
use Rattle.token.specs.Result.{refusal, done}
use Rattle.token.specs.Symbol.{any_symbol}
use Rattle.symbol.specs.Codes.{code_text}

pub code_over : (set : Charset) (code : ℕ) → 62592 < code → code_text set code ≡ refusal code_wrong 0
unfolding code_text
code_over set code h = rw (lt-ltb 62592 code h)

pub code_fine : (set : Charset) (code : ℕ) → code ≤ 62592 → code_text set code ≡ done ((any_symbol set).write code)
unfolding code_text
code_fine set code h = rw (le-ltb 62592 code h)
