-- What fills the list before a run: searching (document 02, Q-10), and sorting after it (Q-12).
use Rattle.std.specs.Prelude.{ℕ, ◌≤◌, ◌≡◌, List, Bool, length}
use Rattle.format.specs.Format.{keep}
use Rattle.token.specs.Result.{Result, done, and_then, in_room, output}
use Rattle.narrowing.specs.Form.{asks, Fill}
use Rattle.arrangement.specs.Arranged.{arranged}
use Rattle.books.specs.Book.{Book, entries_in, checked_in}
use Rattle.books.specs.Sorting.{entry_before, sorted_in, list_after}

-- A call that writes entries at the start of the list, changes nothing after them and refuses a list too short for them as 6 with the
-- room needed. `entries` is its refusal or the entries, which are `start` where it is not refused; `number` and `count` are what its
-- answer has of what is in room.
abbrev pub fill_by : (Book → Result (List ℕ) → ℕ) → (Book → Result (List ℕ) → ℕ) → (Book → Result (List ℕ)) → (Book → List ℕ) → Fill Book
fill_by number count entries start = record {
  Fills = λ b list. number b (in_room (length list) (entries b)) ≡ 0;
  memory = λ b list. output list (entries b);
  count = λ b list. count b (in_room (length list) (entries b));
  start = start;
}

-- searching writes the entries that pass a query's test; refused as the query is, then as 12, 14, 13
abbrev pub found_in : Result (ℕ → Bool) → Book → Result (List ℕ)
found_in query b = and_then query λ test. checked_in b (done (keep test (entries_in b)))

-- they are those that meet what it asks
abbrev pub met_in : Result (ℕ → Bool) → Book → List ℕ
met_in query b = keep (asks query) (entries_in b)

-- what opening writes by document 01: 1 to the line count
abbrev pub opening_in : Book → Result (List ℕ)
opening_in b = checked_in b (done (entries_in b))

-- a fill, and then the sort of what it wrote, with a second list that has room for it
abbrev pub sorted_fill : ℕ → Fill Book → Fill Book
sorted_fill room g = record {
  Fills = λ b list. g.Fills b list × (g.count b list ≤ room);
  memory = λ b list. list_after (g.memory b list) (g.count b list) (sorted_in b (g.memory b list) (g.count b list) room);
  count = g.count;
  start = λ b. arranged (entry_before b) (g.start b);
}
