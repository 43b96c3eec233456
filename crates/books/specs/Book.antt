-- What a dictionary reads as: all that opening and narrowing look at (document 01, "The dictionary and its list").
use Rattle.std.specs.Prelude.{ℕ, ◌≡◌, List, [], map, Bool, true, length}
use Rattle.charset.specs.declared.Charset.{Charset}
use Rattle.grammar.specs.Sign.{Meaning}
use Rattle.token.specs.Result.{Result, refusal, done}
use Rattle.reader.specs.Signs.{sign_of}
use Rattle.sign.specs.Transcription.{other_set, transcription}
use Rattle.lines.specs.Lines.{lines, ended, is_few, line_of, bytes_of}
use Rattle.lines.specs.Checked.{check_ended, check_few, checked_count}
use Rattle.narrowing.specs.Narrowing.{up_to, first_bad, check_lines}
use Rattle.entries.specs.Entries.{is_done}

-- whether its bytes are ended, how many lines they have, and what the line of an entry says as a sign
pub record Book : Type 0 where
  pub ended : Bool
  pub count : ℕ
  pub sign : ℕ → Result Meaning

-- a character set, and the bytes of a dictionary
abbrev pub Text : Type 0
Text = Charset × List ℕ

abbrev pub book_of : Text → Book
book_of t = record { ended = ended t.1; count = length (lines t.1); sign = λ e. sign_of t.0 (line_of t.1 e) }

abbrev pub text_of : Result (List ℕ) → List ℕ
text_of (refusal number place) = []
text_of (done text) = text

-- the rewritten dictionary: each line transcribed, with its byte 10
unfoldable pub rewritten : Charset → List ℕ → List ℕ
rewritten set dict = bytes_of (map (λ line. text_of (transcription set line)) (lines dict))

abbrev pub other_text : Text → Text
other_text t = (other_set t.0, rewritten t.0 t.1)

-- the line count, or 12, or 14
abbrev pub count_in : Book → Result ℕ
count_in b = checked_count b.ended b.count

-- whether the sign reader reads the line of an entry
abbrev pub readable_in : Book → ℕ → Bool
readable_in b e = is_done (b.sign e)

-- 1 to the line count
abbrev pub entries_in : Book → List ℕ
entries_in b = up_to b.count

-- refused as 12, 14, then 13 with the first bad line
abbrev pub checked_in : {A : Type 0} → Book → Result A → Result A
checked_in b r = check_ended b.ended (check_few b.count (check_lines (readable_in b) (entries_in b) r))

-- refused as none of these
pub record Sound (b : Book) : Type 0 where
  pub whole : b.ended ≡ true
  pub few : is_few b.count ≡ true
  pub good : first_bad (readable_in b) (entries_in b) ≡ 0
