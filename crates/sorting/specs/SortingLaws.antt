-- What holds of sorting (document 02, Q-12).
use Rattle.std.specs.Prelude.{ℕ, ◌≡◌, false, take}
use mathlib.Core.List.{List, Perm}
use Rattle.format.specs.Format.{keep}
use Rattle.charset.specs.declared.Charset.{Charset}
use Rattle.token.specs.Result.{done}
use Rattle.sign.specs.Transcription.{other_set}
use Rattle.arrangement.specs.Arranged.{level}
use Rattle.arrangement.specs.Laws.{Order, InOrder, Arrangement}
use Rattle.books.specs.Book.{Book, book_of, rewritten, Sound}
use Rattle.books.specs.Sorting.{prefix_of, entry_before, list_after, spare_after}
use Rattle.sorting.specs.Sorting.{sorted}

-- dictionary order, of any book
pub record EntryOrder (b : Book) : Type 0 where
  -- it is transitive
  pub order : Order (entry_before b)
  -- and total: of two entries one comes before the other, or their prefixes are equal
  pub total : (e i : ℕ) → entry_before b e i ≡ false → entry_before b i e ≡ false → prefix_of (b.sign e) ≡ prefix_of (b.sign i)
  -- a list arranged by it has the same entries, in order, equal prefixes in their old order, and no other list is so
  pub arrangement : Arrangement (entry_before b)

pub record SortingLaws : Type 0 where
  pub entries : (b : Book) → EntryOrder b
  -- a call that is accepted leaves the same entries
  pub same : (set : Charset) (dict list : List ℕ) (n : ℕ) (spare entries : List ℕ) → sorted set dict list n spare ≡ done entries → Perm entries (take n list)
  -- in dictionary order
  pub in_order : (set : Charset) (dict list : List ℕ) (n : ℕ) (spare entries : List ℕ) → sorted set dict list n spare ≡ done entries
      → InOrder (entry_before (book_of (set, dict))) entries
  -- those with the prefix of any one in their old order
  pub stable : (set : Charset) (dict list : List ℕ) (n : ℕ) (spare entries : List ℕ) → sorted set dict list n spare ≡ done entries
      → (e : ℕ) → keep (level (entry_before (book_of (set, dict))) e) entries ≡ keep (level (entry_before (book_of (set, dict))) e) (take n list)
  -- sorting what it left again is accepted and changes nothing
  pub again : (set : Charset) (dict list : List ℕ) (n : ℕ) (spare entries : List ℕ) → sorted set dict list n spare ≡ done entries
      → sorted set dict (list_after list n (done entries)) n (spare_after spare n (done entries)) ≡ done entries
  -- a dictionary that is not refused and its rewriting sort alike, whatever the list and its refusals
  pub rewriting : (set : Charset) (dict list : List ℕ) (n : ℕ) (spare : List ℕ) → Sound (book_of (set, dict))
      → sorted (other_set set) (rewritten set dict) list n spare ≡ sorted set dict list n spare
