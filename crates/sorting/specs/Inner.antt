-- What is checked before a sort, and what arranging then needs.
use Rattle.std.specs.Prelude.{ℕ, ◌≤◌, ◌≡◌, List, length, take}
use Rattle.charset.specs.declared.Charset.{Charset}
use Rattle.token.specs.Result.{Result, on_done}
use Rattle.lines.specs.Lines.{lines as lines_of}
use Rattle.narrowing.specs.Narrowing.{distinct}
use Rattle.books.specs.Book.{book_of}
use Rattle.books.specs.Forms.{GoodBy}

-- the refusal of a call over so many lines, or their number
abbrev pub lines_or : ℕ → Result (List ℕ) → Result ℕ
lines_or lines r = on_done (λ _. lines) r

-- nothing is refused
pub record Ready (set : Charset) (dict list : List ℕ) (n room lines : ℕ) : Type 0 where
  pub counted : lines ≡ length (lines_of dict)
  pub few : lines ≤ 65535
  pub within : n ≤ length list
  pub space : n ≤ room
  pub good : GoodBy distinct (book_of (set, dict)) (take n list)
