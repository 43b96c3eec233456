-- One narrowing call (document 01, "The dictionary and its list", "Refusal numbers"), over what its query, dictionary and lines come to.
use Rattle.std.specs.Prelude.{Result as Answer, Ok, Err, Option, None, Some, ℕ, zero, suc, ◌-◌, List, [], ◌∷◌, ◌++◌, Bool, true, false, not, ◌&&◌, ◌||◌, eqb, ltb, leb, length, take, drop, replicate}
use Rattle.format.specs.Format.{choose, keep}
use Rattle.token.specs.Refusal.{list_wrong, line_wrong, number_of, place_of}
use Rattle.token.specs.Result.{Result, refusal, done, check, and_then}
use Rattle.token.specs.declared.refusal.Refusal.{Refusal}
use Rattle.narrowing.specs.declared.Narrowed.{Narrowed as Counts}

-- n entries from k on, and entries 1 to n
unfoldable pub entries_from : ℕ → ℕ → List ℕ
entries_from k zero = []
entries_from k (suc n) = k ∷ entries_from (suc k) n

abbrev pub up_to : ℕ → List ℕ
up_to n = entries_from 1 n

-- strictly rising, each entry over the last and at most count
unfoldable pub rising_over : ℕ → ℕ → List ℕ → Bool
rising_over last count [] = true
rising_over last count (e ∷ entries) = ltb last e && (leb e count && rising_over e count entries)

-- strictly rising in 1 to count
abbrev pub rising : ℕ → List ℕ → Bool
rising count entries = rising_over 0 count entries

-- an entry stands in a list
unfoldable pub has : ℕ → List ℕ → Bool
has e [] = false
has e (i ∷ entries) = eqb i e || has e entries

-- each in 1 to count and none twice, in any order (document 02, Q-12)
unfoldable pub distinct : ℕ → List ℕ → Bool
distinct count [] = true
distinct count (e ∷ entries) = (ltb 0 e && leb e count) && (not (has e entries) && distinct count entries)

-- n is within the list, and its first n entries pass the test of a list
unfoldable pub listed : (List ℕ → Bool) → List ℕ → ℕ → Bool
listed valid list n = leb n (length list) && valid (take n list)

-- the first entry whose line the sign reader refuses, 0 if it reads them all
unfoldable pub first_bad : (ℕ → Bool) → List ℕ → ℕ
first_bad readable [] = 0
first_bad readable (e ∷ entries) = choose (readable e) (first_bad readable entries) e

-- an entry as the functions that look for it answer it: none in place of 0
abbrev pub some_entry : ℕ → Option ℕ
some_entry zero = None
some_entry (suc e) = Some (suc e)

-- refused as 13 with that entry
abbrev pub check_lines : {A : Type 0} → (ℕ → Bool) → List ℕ → Result A → Result A
check_lines readable entries r = check (eqb (first_bad readable entries) 0) line_wrong (first_bad readable entries) r

-- The entries that a call keeps: refused as its query is, then as the dictionary is, then as 11 and 13. A query tests entries; a
-- dictionary has a line count, over which `valid` tests a list.
unfoldable pub kept_by : Result (ℕ → Bool) → Result ℕ → (ℕ → List ℕ → Bool) → (ℕ → Bool) → List ℕ → ℕ → Result (List ℕ)
kept_by query count valid readable list n =
    and_then query λ test.
    and_then count λ lines.
    check (listed (valid lines) list n) list_wrong 0
    (check_lines readable (take n list)
    (done (keep test (take n list))))

-- What a call answers, as numbers: zeros but for number and place where it is refused.
pub record Narrowed : Type 0 where
  pub number : ℕ
  pub place : ℕ
  pub kept : ℕ
  pub dropped : ℕ

-- and by the function that makes it: both counts, or the refusal
abbrev pub as_narrowed : Answer Counts Refusal → Narrowed
as_narrowed (Ok counts) = record { number = 0; place = 0; kept = counts.kept; dropped = counts.dropped }
as_narrowed (Err e) = record { number = number_of e; place = place_of e; kept = 0; dropped = 0 }

abbrev pub not_narrowed : ℕ → ℕ → Narrowed
not_narrowed number place = record { number = number; place = place; kept = 0; dropped = 0 }

unfoldable pub answer_of : ℕ → Result (List ℕ) → Narrowed
answer_of n (refusal number place) = not_narrowed number place
answer_of n (done kept) = record { number = 0; place = 0; kept = length kept; dropped = n - length kept }

-- entries, zeros in the places after them up to n, and the rest
unfoldable pub filled : ℕ → List ℕ → List ℕ → List ℕ
filled n entries rest = entries ++ (replicate (n - length entries) 0 ++ rest)

-- the list memory after a call: nothing is changed beyond n, nor where it is refused
unfoldable pub list_after : List ℕ → ℕ → Result (List ℕ) → List ℕ
list_after list n (refusal number place) = list
list_after list n (done kept) = filled n kept (drop n list)

abbrev pub narrowing : List ℕ → ℕ → Result (List ℕ) → Narrowed × List ℕ
narrowing list n kept = (answer_of n kept, list_after list n kept)

-- a call on a list memory and a count n: what it answers, and the list memory after it
unfoldable pub narrowed_by : Result (ℕ → Bool) → Result ℕ → (ℕ → List ℕ → Bool) → (ℕ → Bool) → List ℕ → ℕ → Narrowed × List ℕ
narrowed_by query count valid readable list n = narrowing list n (kept_by query count valid readable list n)
