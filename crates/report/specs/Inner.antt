-- What a search within the sizes leaves, what puts it into an order, and what is told of it then.
use Rattle.std.specs.Prelude.{ℕ, ◌≤◌, ◌≡◌, List, length, take}
use Rattle.std.specs.Borrow.{Bor, MutBor}
use Rattle.token.specs.Result.{done, left_as, on_done}
use Rattle.lines.specs.Lines.{lines as lines_of}
use Rattle.searching.specs.Searching.{Searched, searched_as}
use Rattle.report.specs.Report.{found_within, result_text}

-- the answer, and the list memory after it
pub record Finds (query dict list : List ℕ) (r : Searched) (after : List ℕ) : Type 0 where
  pub answer : r ≡ searched_as (length (lines_of dict)) (found_within query dict)
  pub memory : after ≡ left_as list (found_within query dict)
  pub few_lines : r.lines ≤ 1024
  pub few_written : r.written ≤ 1024

-- a list with the entries at its start that a search found
pub record Filled (dict list entries : List ℕ) : Type 0 where
  pub query : List ℕ
  pub found : found_within query dict ≡ done entries
  pub long : length list ≡ 1024
  pub front : take (length entries) list ≡ entries

-- calls that put such entries of a dictionary's list into an order
abbrev pub Arranges : (Bor (List ℕ) → MutBor (List ℕ) → ℕ → MutBor (List ℕ) → Type 0) → (List ℕ → List ℕ → List ℕ) → Type 0
Arranges call order =
    (dict : Bor (List ℕ)) (list after : MutBor (List ℕ)) (n : ℕ) (entries : List ℕ) → n ≡ length entries → Filled dict.now list.now entries → call dict list n after
    → take (length entries) after.now ≡ order dict.now entries

-- what is told of a query and a dictionary, with the entries in an order
abbrev pub told_in : (List ℕ → List ℕ → List ℕ) → List ℕ → List ℕ → List ℕ
told_in order query dict = result_text (length (lines_of dict)) (on_done (order dict) (found_within query dict))
