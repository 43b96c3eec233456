-- The laws of sorting.
use Prim.Native.Nat.{ℕ, ◌≤◌}
use mathlib.Core.Path.{◌≡◌, refl, sym, ap, subst, ◌∙◌}
use mathlib.Core.List.{List, ◌++◌, Perm}
use native.Mathlib.Omega.{arith}
use lib.ListN.{length, take, drop, replicate, length-append, length-take, length-replicate}
use Rattle.format.specs.Format.{keep}
use Rattle.charset.specs.declared.Charset.{Charset}
use Rattle.token.specs.Result.{Result, refusal, done}
use Rattle.arrangement.specs.Arranged.{arranged, level}
use Rattle.arrangement.specs.Laws.{InOrder}
use Rattle.arrangement.proofs.Merging.{arranged_length}
use Rattle.arrangement.proofs.Arranging.{arrangement}
use Rattle.arrangement.proofs.Prefixes.{prefix_level}
use Rattle.books.specs.Book.{Book, book_of}
use Rattle.books.specs.Sorting.{entry_before, sorted_in, spare_after}
use Rattle.books.proofs.Rewriting.{same_book}
use Rattle.books.proofs.Sorting.{entry_order, WasSorted, was_sorted, arranged_good, good_sorted, sorted_counted}
use Rattle.sorting.specs.Sorting.{sorted, sorted_as}
use Rattle.sorting.specs.SortingLaws.{EntryOrder, SortingLaws}

pub entries_order : (b : Book) → EntryOrder b
unfolding entry_before
entries_order b = record { order = entry_order b; total = λ e i h k. prefix_level _ _ h k; arrangement = arrangement (entry_before b) (entry_order b) }

-- what an accepted call arranged
module _ (b : Book) (list : List ℕ) (n : ℕ) (spare entries : List ℕ) (e : sorted_in b list n (length spare) ≡ done entries) where
  was : WasSorted b list n (length spare) entries
  was = was_sorted b list n (length spare) entries e

  as_many : length entries ≡ n
  as_many = ap length was.is ∙ arranged_length (entry_before b) (take n list) ∙ omega (arith, length-take n list, was.within)

  sorted_again : sorted_in b (entries ++ drop n list) n (length (spare_after spare n (done entries))) ≡ done entries
  sorted_again =
      let k = arranged (entry_before b) (take n list) in
      let room = length (replicate {A = ℕ} n 0 ++ drop n spare) in
      let few : length k ≤ room = omega (arith, length-append (replicate {A = ℕ} n 0) (drop n spare), length-replicate {A = ℕ} n 0, as_many, ap length was.is) in
      let again = good_sorted b k (drop n list) (arranged_good b (take n list) was.good) room few ∙ ap done ((entries_order b).arrangement.again (take n list)) in
      ap (λ m. sorted_in b (entries ++ drop n list) m room) (sym as_many) ∙ rw was.is again

-- a call that answers 0 was not refused
pub accepted : (set : Charset) (dict list : List ℕ) (n : ℕ) (spare : List ℕ) → (sorted_as (sorted set dict list n spare)).number ≡ 0
    → (entries : List ℕ) × (sorted set dict list n spare ≡ done entries)
unfolding sorted
accepted set dict list n spare z = go (sorted_in b list n (length spare)) refl z
  where
    b : Book
    b = book_of (set, dict)

    go : (r : Result (List ℕ)) → sorted_in b list n (length spare) ≡ r → (sorted_as r).number ≡ 0 → (entries : List ℕ) × (r ≡ done entries)
    go (refusal number place) e z = absurd (omega (arith, sorted_counted b list n (length spare) number place e))
    go (done entries) e z = (entries, refl)

pub sorting_laws : SortingLaws
unfolding sorted
sorting_laws =
    record {
      entries = entries_order;
      same = λ set dict list n spare entries e.
          let b = book_of (set, dict) in
          subst (λ k. Perm k (take n list)) (sym (was b list n spare entries e).is) ((entries_order b).arrangement.same (take n list));
      in_order = λ set dict list n spare entries e.
          let b = book_of (set, dict) in
          subst (InOrder (entry_before b)) (sym (was b list n spare entries e).is) ((entries_order b).arrangement.in_order (take n list));
      stable = λ set dict list n spare entries e i.
          let b = book_of (set, dict) in
          ap (keep (level (entry_before b) i)) (was b list n spare entries e).is ∙ (entries_order b).arrangement.stable (take n list) i;
      again = λ set dict list n spare entries e. sorted_again (book_of (set, dict)) list n spare entries e;
      rewriting = λ set dict list n spare s. ap (λ b. sorted_in b list n (length spare)) (same_book (set, dict) s);
    }
