-- Document 02, Q-1: a sign with its styling in the other character set. The bytes of the styling are the same.
use Rattle.std.specs.Prelude.{ℕ, List, ◌++◌, drop}
use Rattle.charset.specs.declared.Charset.{Charset}
use Rattle.grammar.specs.Sign.{sign_text}
use Rattle.token.specs.Result.{Result, on_done}
use Rattle.sign.specs.Transcription.{other_set}
use Rattle.stylinggrammar.specs.Styled.{dash_at}
use Rattle.styling.specs.Reading.{styled_of}

unfoldable pub styled_transcription : Charset → List ℕ → Result (List ℕ)
styled_transcription set text = on_done (λ p. sign_text (other_set set) p.0 ++ drop (dash_at text) text) (styled_of set text)
