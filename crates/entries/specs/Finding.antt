-- What a walk that looks for entries among listed ones tells: it is refused at the first whose line is no sign, and otherwise tells how
-- many pass a test.
use Rattle.std.specs.Prelude.{Result as Answer, Ok, Err, ℕ, ◌≡◌, List, Bool, false, not, ◌&&◌, length}
use Rattle.format.specs.Format.{choose, keep}
use Rattle.charset.specs.declared.Charset.{Charset}
use Rattle.token.specs.declared.refusal.Refusal.{Refusal}
use Rattle.token.specs.declared.refusal.Refusal.TheVariants.{LineWrong}
use Rattle.token.specs.Result.{Result, refusal, done}
use Rattle.reader.specs.Signs.{sign_of}
use Rattle.narrowing.specs.Narrowing.{check_lines}
use Rattle.verdict.specs.Inner.{met_on_words}
use Rattle.list.specs.Bits.{bit_of, Holds}
use Rattle.entries.specs.Entries.{readable}

-- what is said of the line of entry e
abbrev pub line_verdict : ℕ → Result Bool → Answer Bool Refusal
line_verdict e (refusal number place) = Err (LineWrong e)
line_verdict e (done meets) = Ok meets

-- whether the line of entry e, if it is listed, meets words; otherwise the line is not read
unfoldable pub listed_verdict : Charset → List ℕ → List ℕ → List ℕ → ℕ → Answer Bool Refusal
listed_verdict set words line listed e = choose (bit_of listed e) (line_verdict e (met_on_words words (sign_of set line))) (Ok false)

abbrev pub found_in : Charset → List ℕ → List ℕ → (ℕ → Bool) → Result ℕ
found_in set dict entries test = check_lines (readable set dict) entries (done (length (keep test entries)))

-- The lent set is as long as before, and where every line is a sign it has the listed entries that pass.
pub record Kept (r : Answer ℕ Refusal) (listed test : ℕ → Bool) (n : ℕ) (before after : List ℕ) : Type 0 where
  pub long : length after ≡ length before
  pub holds : (met : ℕ) → r ≡ Ok met → Holds (λ e. listed e && test e) n after

-- The lent set is as long as before, and has those of the listed ones in 1 to n whose line is no sign.
pub record HasWrong (set : Charset) (dict : List ℕ) (listed : ℕ → Bool) (n : ℕ) (before after : List ℕ) : Type 0 where
  pub long : length after ≡ length before
  pub holds : Holds (λ e. listed e && not (readable set dict e)) n after
