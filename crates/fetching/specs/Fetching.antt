-- Fetching from two dictionaries (document 01, "The dictionary and its list"; "Refusal numbers", order).
use Rattle.std.specs.Prelude.{Result as Answer, Ok, Err, ℕ, ◌+◌, ◌-◌, List, [], ◌++◌, ◌≡◌, leb, ltb, length}
use Rattle.std.specs.Borrow.{Bor}
use Rattle.format.specs.Format.{choose}
use Rattle.token.specs.declared.refusal.Refusal.{Refusal as Reason}
use Rattle.token.specs.Refusal.{entry_absent, number_of, place_of}
use Rattle.token.specs.Result.{Result, refusal, done, check}
use Rattle.lines.specs.Lines.{lines, ended, line_of, line_start, place_in}
use Rattle.lines.specs.Checked.{check_ended, check_few}

-- line k of the first dictionary, or of the second
pub data Entry : Type 0 where
  in_first : ℕ → Entry
  in_second : ℕ → Entry

-- numbers run on from the n lines of the first into the second
abbrev pub entry_of : ℕ → ℕ → Entry
entry_of n number = choose (leb number n) (in_first number) (in_second (number - n))

-- 12 for the first, then the second; 14 likewise; then 16
unfoldable pub fetching : List ℕ → List ℕ → ℕ → Result Entry
fetching first second number =
    check_ended (ended first)
    (check_ended (ended second)
    (check_few (length (lines first))
    (check_few (length (lines second))
    (check (ltb 0 number) entry_absent 0
    (check (leb number (length (lines first) + length (lines second))) entry_absent 0
    (done (entry_of (length (lines first)) number)))))))

-- what the separate entry answers, as numbers
pub record Refusal : Type 0 where
  pub number : ℕ
  pub place : ℕ

abbrev pub refusal_as : Result Entry → Refusal
refusal_as (refusal number place) = record { number = number; place = place }
refusal_as (done entry) = record { number = 0; place = 0 }

-- and by the function that makes it
abbrev pub as_refusal : Answer (Unit {0}) Reason → Refusal
as_refusal (Ok nothing) = record { number = 0; place = 0 }
as_refusal (Err e) = record { number = number_of e; place = place_of e }

-- the line, and where it lies; refused: the empty part at the start of the first dictionary
unfoldable pub fetched_line : List ℕ → List ℕ → Result Entry → List ℕ
fetched_line first second (refusal number place) = []
fetched_line first second (done (in_first k)) = line_of first k
fetched_line first second (done (in_second k)) = line_of second k

unfoldable pub fetched_place : Bor (List ℕ) → Bor (List ℕ) → Result Entry → ℕ × ℕ
fetched_place first second (refusal number place) = first.ref_ptr
fetched_place first second (done (in_first k)) = place_in first (line_start first.now k)
fetched_place first second (done (in_second k)) = place_in second (line_start second.now k)

pub record FetchLaws : Type 0 where
  -- a fetched line is that of the two dictionaries as one
  pub runs_on : (first second : List ℕ) (number : ℕ) (entry : Entry) → fetching first second number ≡ done entry
      → fetched_line first second (done entry) ≡ line_of (first ++ second) number
