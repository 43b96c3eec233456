-- Sorting (document 02, Q-12): what a call comes to and how it is answered. Both lists after it are `list_after` and `spare_after`.
use Rattle.std.specs.Prelude.{Result as Answer, Ok, Err, ℕ, List, length}
use Rattle.charset.specs.declared.Charset.{Charset}
use Rattle.token.specs.Result.{Result, refusal, done}
use Rattle.books.specs.Book.{book_of}
use Rattle.books.specs.Sorting.{sorted_in}
use Rattle.token.specs.declared.refusal.Refusal.{Refusal}
use Rattle.token.specs.Refusal.{number_of, place_of}

-- the first n entries in dictionary order; refused as 12, 14, 11, 13, then as 6 with n for a second list too short
unfoldable pub sorted : Charset → List ℕ → List ℕ → ℕ → List ℕ → Result (List ℕ)
sorted set dict list n spare = sorted_in (book_of (set, dict)) list n (length spare)

-- what a call answers, as numbers
pub record Sorted : Type 0 where
  pub number : ℕ
  pub place : ℕ

abbrev pub sorted_as : Result (List ℕ) → Sorted
sorted_as (refusal number place) = record { number = number; place = place }
sorted_as (done entries) = record { number = 0; place = 0 }

-- and by the function that makes it
abbrev pub as_sorted : Answer (Unit {0}) Refusal → Sorted
as_sorted (Ok nothing) = record { number = 0; place = 0 }
as_sorted (Err e) = record { number = number_of e; place = place_of e }
