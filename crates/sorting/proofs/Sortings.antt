-- What a sort comes to in each case: one law for each return.
use Prim.Native.Nat.{ℕ, ◌+◌, ◌-◌, ◌≤◌, ◌<◌}
use mathlib.Core.Path.{◌≡◌, refl, sym, ap, ◌∙◌}
use mathlib.Core.List.{List, ◌++◌}
use mathlib.Core.Bool.{Bool, true, false, true≢false}
use native.Mathlib.Omega.{arith}
use borrow.Author.Tests.{ne_eqb, lt-leb, le-leb}
use lib.ListN.{length, take, drop, replicate, take-append-drop}
use Rattle.format.proofs.Lists.{all_both}
use Rattle.charset.specs.declared.Charset.{Charset}
use Rattle.grammar.specs.Sign.{Meaning}
use Rattle.token.specs.Refusal.{list_wrong, line_wrong, room_short}
use Rattle.token.specs.Result.{Result, refusal, done}
use Rattle.token.proofs.Checks.{refusal_done}
use Rattle.reader.specs.Signs.{sign_of}
use Rattle.lines.specs.Lines.{lines as lines_of, first_line, line_of, line_start}
use Rattle.lines.specs.Checked.{line_count}
use Rattle.lines.proofs.Counts.{count_whole}
use Rattle.lines.proofs.Starts.{line_at}
use Rattle.linetable.specs.Table.{Table}
use Rattle.narrowing.specs.Narrowing.{distinct, listed}
use Rattle.narrowing.proofs.Distinct.{distinct_within}
use Rattle.arrangement.specs.Arranged.{arranged}
use Rattle.arrangement.specs.Prefixes.{prefix_before}
use Rattle.arrangement.proofs.Arranging.{arranged_agree}
use Rattle.prefixes.specs.Words.{words_in, words_at}
use Rattle.prefixes.proofs.Signs.{sign_before}
use Rattle.mergesort.specs.Inner.{placed_before}
use Rattle.entries.specs.Entries.{is_done, readable, first_wrong}
use Rattle.books.specs.Book.{Book, book_of}
use Rattle.books.specs.Sorting.{prefix_of, entry_before, sorted_in, list_after, spare_after}
use Rattle.books.proofs.Sorting.{was_sorted}
use Rattle.sorting.specs.Inner.{lines_or, Ready}
use Rattle.sorting.specs.Sorting.{sorted, sorted_as}

-- THE CHECKS
module _ (set : Charset) (dict list : List ℕ) (n room : ℕ) where
  abbrev whole : Result ℕ
  whole = lines_or (length (lines_of dict)) (sorted_in (book_of (set, dict)) list n room)

  pub by_dictionary : (x p : ℕ) → refusal x p ≡ line_count dict → refusal x p ≡ whole
  unfolding sorted_in
  by_dictionary x p e = rw (sym e)

  module _ {lines : ℕ} (c : done lines ≡ line_count dict) (t : Bool) (l : t ≡ listed (distinct lines) list n) where
    pub by_11 : t ≡ false → refusal list_wrong 0 ≡ whole
    unfolding sorted_in
    by_11 h = rw (sym c, sym l ∙ h)

    module _ (h : t ≡ true) where
      pub by_13 : (wrong : ℕ) → wrong ≡ first_wrong set dict (take n list) → (first_wrong set dict (take n list) ≡ 0 → ⊥) → refusal line_wrong wrong ≡ whole
      unfolding sorted_in
      by_13 wrong w q = rw (sym c, sym l ∙ h, w, ne_eqb (first_wrong set dict (take n list)) 0 q)

      module _ (q : first_wrong set dict (take n list) ≡ 0) where
        pub by-6 : room < n → refusal room_short n ≡ whole
        unfolding sorted_in
        by-6 r = rw (sym c, sym l ∙ h, q, lt-leb n room r)

        pub by-done : n ≤ room → done lines ≡ whole
        unfolding sorted_in
        by-done r = rw (sym c, sym l ∙ h, q, le-leb n room r, (count_whole dict lines (sym c)).lines)

-- THE TABLE'S ORDER is that of the entries, where their lines are signs
pub record Entry (set : Charset) (dict : List ℕ) (e : ℕ) : Type 0 where
  pub low : 0 < e
  pub high : e ≤ length (lines_of dict)
  pub reads : readable set dict e ≡ true

-- what stands from the start of a line on
from_line : (dict : List ℕ) (e : ℕ) → 1 ≤ e → e ≤ length (lines_of dict) → (rest : List ℕ) × (drop (line_start dict e) dict ≡ line_of dict e ++ rest)
from_line dict e l h =
    let a = line_start dict e in
    let end = a + length (first_line (drop a dict)) in
    let line = line_at dict e a l h refl end refl in
    (drop (end - a) (drop a dict), sym (take-append-drop (end - a) (drop a dict)) ∙ ap (λ t. t ++ drop (end - a) (drop a dict)) line.part)

module _ (set : Charset) (dict bases offsets : List ℕ) (t : Table dict bases offsets) where
  abbrev b : Book
  b = book_of (set, dict)

  placed_entry : (e i : ℕ) → Entry set dict e → Entry set dict i → placed_before set dict bases offsets e i ≡ entry_before b e i
  unfolding placed_before entry_before
  placed_entry e i p q =
      let x = from_line dict e p.low p.high in
      let y = from_line dict i q.low q.high in
      (λ k. prefix_before (words_at set dict (t.is e p.low p.high k)) (words_at set dict (t.is i q.low q.high k)))
      ∙ (λ k. prefix_before (words_in set (x.1 k)) (words_in set (y.1 k)))
      ∙ go (sign_of set (line_of dict e)) (sign_of set (line_of dict i)) refl refl p.reads q.reads x.0 y.0
    where
      go : (m n : Result Meaning) → sign_of set (line_of dict e) ≡ m → sign_of set (line_of dict i) ≡ n → is_done m ≡ true → is_done n ≡ true → (r s : List ℕ)
          → prefix_before (words_in set (line_of dict e ++ r)) (words_in set (line_of dict i ++ s)) ≡ prefix_before (prefix_of m) (prefix_of n)
      go (done m) (done n) f g h k r s = sign_before set (line_of dict e) (line_of dict i) r s m n f g
      go (done m) (refusal number place) f g h k r s = absurd (true≢false (sym k))
      go (refusal number place) n f g h k r s = absurd (true≢false (sym h))

  pub arranged_listed : (list : List ℕ) (n room lines : ℕ) → Ready set dict list n room lines
      → arranged (placed_before set dict bases offsets) (take n list) ≡ arranged (entry_before b) (take n list)
  arranged_listed list n room lines r =
      arranged_agree (Entry set dict) (placed_before set dict bases offsets) (entry_before b) placed_entry (take n list)
      (all_both (λ e. (0 < e) × (e ≤ length (lines_of dict))) (λ e. readable set dict e ≡ true) (Entry set dict) (λ e w h. record { low = w.0; high = w.1; reads = h }) (take n list)
      (distinct_within (length (lines_of dict)) (take n list) r.good.passes) r.good.reads)

-- WHAT IS CHECKED decides the sort
module _ (set : Charset) (dict list : List ℕ) (n : ℕ) (spare : List ℕ) where
  abbrev book : Book
  book = book_of (set, dict)

  abbrev checked : Result (List ℕ) → Result ℕ
  checked r = lines_or (length (lines_of dict)) r

  pub refused : (x p : ℕ) → refusal x p ≡ checked (sorted_in book list n (length spare)) → record {
    answer : record { number = x; place = p } ≡ sorted_as (sorted set dict list n spare);
    memory : list ≡ list_after list n (sorted set dict list n spare);
    second : spare ≡ spare_after spare n (sorted set dict list n spare);
  }
  unfolding sorted
  refused x p k = go (sorted_in book list n (length spare)) k
    where
      go : (r : Result (List ℕ)) → refusal x p ≡ checked r
          → record { answer : record { number = x; place = p } ≡ sorted_as r; memory : list ≡ list_after list n r; second : spare ≡ spare_after spare n r }
      go (refusal number place) e = let a : x ≡ number = cc in let b : p ≡ place = cc in record { answer = rw (a, b); memory = refl; second = refl }
      go (done entries) e = refusal_done x p e

  module _ (lines : ℕ) (k : done lines ≡ checked (sorted_in book list n (length spare))) where
    pub ready : Ready set dict list n (length spare) lines
    ready = go (sorted_in book list n (length spare)) refl k
      where
        go : (r : Result (List ℕ)) → sorted_in book list n (length spare) ≡ r → done lines ≡ checked r → Ready set dict list n (length spare) lines
        go (refusal number place) f e = refusal_done number place (sym e)
        go (done entries) f e =
            let w = was_sorted book list n (length spare) entries f in
            let l : lines ≡ length (lines_of dict) = cc in
            record {
              counted = l;
              few = omega (arith, l, (count_whole dict (length (lines_of dict)) w.good.fine).few);
              within = w.within;
              space = w.space;
              good = w.good;
            }

    pub sorts : (after second : List ℕ) → after ≡ arranged (entry_before book) (take n list) ++ drop n list → second ≡ replicate n 0 ++ drop n spare
        → record {
          answer : record { number = 0; place = 0 } ≡ sorted_as (sorted set dict list n spare);
          memory : after ≡ list_after list n (sorted set dict list n spare);
          second : second ≡ spare_after spare n (sorted set dict list n spare);
        }
    unfolding sorted
    sorts after second f g = go (sorted_in book list n (length spare)) refl k
      where
        go : (r : Result (List ℕ)) → sorted_in book list n (length spare) ≡ r → done lines ≡ checked r
            → record { answer : record { number = 0; place = 0 } ≡ sorted_as r; memory : after ≡ list_after list n r; second : second ≡ spare_after spare n r }
        go (refusal number place) h e = refusal_done number place (sym e)
        go (done entries) h e = record { answer = refl; memory = f ∙ ap (λ x. x ++ drop n list) (sym (was_sorted book list n (length spare) entries h).is); second = g }
