-- What lines and their bytes have to do with each other.
use Rattle.std.specs.Prelude.{ℕ, ◌≡◌, List, ◌++◌, true}
use Rattle.format.specs.Format.{All}
use Rattle.lines.specs.Lines.{lines, ended, bytes_of, first_line}

-- a line without a byte 10 in it
abbrev pub Plain : List ℕ → Type 0
Plain l = first_line l ≡ l

pub record LineLaws : Type 0 where
  -- ended bytes are their lines, each with its byte 10
  pub whole : (bytes : List ℕ) → ended bytes ≡ true → bytes_of (lines bytes) ≡ bytes
  -- what follows ended bytes has lines of its own
  pub joined : (bytes more : List ℕ) → ended bytes ≡ true → lines (bytes ++ more) ≡ lines bytes ++ lines more
  -- no line has a byte 10 in it
  pub plain : (bytes : List ℕ) → All Plain (lines bytes)
  -- such lines are read back from their bytes, and these are ended
  pub back : (ls : List (List ℕ)) → All Plain ls → lines (bytes_of ls) ≡ ls
  pub closed : (ls : List (List ℕ)) → ended (bytes_of ls) ≡ true
