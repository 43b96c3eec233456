-- Transcription: the text of the same sign in the other character set.
use Rattle.std.specs.Prelude.{◌≡◌, ℕ, ◌≤◌, ◌↔◌, List, length}
use Rattle.charset.specs.declared.Charset.{Charset}
use Rattle.charset.specs.declared.Charset.TheVariants.{Fsw, Swu}
use Rattle.grammar.specs.Sign.{sign_text}
use Rattle.token.specs.Result.{Result, done, on_done, written, left_text, Leaves}
use Rattle.reader.specs.Signs.{sign_of}
use Rattle.sign.specs.Reading.{reading_in}
use Rattle.sign.specs.OffsetLaws.{ReadAlike}

abbrev pub other_set : Charset → Charset
other_set Fsw = Swu
other_set Swu = Fsw

unfoldable pub transcription : Charset → List ℕ → Result (List ℕ)
transcription set text = on_done (sign_text (other_set set)) (sign_of set text)

pub record TranscriptionLaws : Type 0 where
  -- a sign and its transcription read as signs equal in all but offsets
  pub equal : (set : Charset) (text other : List ℕ) → transcription set text ≡ done other → ReadAlike (other_set set) other set text
  -- they are equal signs exactly where there is no symbol
  pub same : (set : Charset) (text other : List ℕ) → transcription set text ≡ done other
      → ((reading_in (other_set set) other).sign ≡ (reading_in set text).sign)
      ↔ (((reading_in set text).sign.prefix_count ≡ 0) × ((reading_in set text).sign.symbol_count ≡ 0))
  -- transcribing there and back returns the same bytes
  pub back : (set : Charset) (text other : List ℕ) → transcription set text ≡ done other → transcription (other_set set) other ≡ done text
  -- so do two calls, given room: where the first answers 0, the call back on what it wrote leaves the first text
  pub returned : (set : Charset) (text out room : List ℕ) → (written out (transcription set text)).number ≡ 0 → length text ≤ length room
      → Leaves room (transcription (other_set set) (left_text out (transcription set text))) text
