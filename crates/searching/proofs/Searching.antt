-- What searching comes to in each case: one law for each return.
use Prim.Native.Nat.{ℕ, ◌/◌, ◌≤◌, ◌<◌}
use mathlib.Core.Path.{◌≡◌, refl, sym, ap, ◌∙◌}
use mathlib.Core.List.{List, ◌++◌}
use mathlib.Core.Bool.{Bool, true}
use native.Mathlib.Omega.{arith}
use borrow.Author.Tests.{lt-ltb, le-ltb, ne_eqb}
use lib.ListN.{length, drop}
use Rattle.format.specs.Format.{keep}
use Rattle.charset.specs.declared.Charset.{Charset}
use Rattle.std.specs.Prelude.{Result as Answer, Ok, Err}
use Rattle.token.specs.declared.refusal.Refusal.{Refusal}
use Rattle.token.specs.Refusal.{line_wrong, room_short, number_of, place_of}
use Rattle.token.specs.Result.{refusal, done, outcome, output}
use Rattle.reader.specs.Signs.{sign_of}
use Rattle.lines.specs.Lines.{lines as lines_of, line_of}
use Rattle.lines.specs.Checked.{line_count}
use Rattle.lines.proofs.Counts.{count_whole}
use Rattle.narrowing.specs.Narrowing.{up_to}
use Rattle.format.proofs.Keeping.{keep_keep, keep_every}
use Rattle.narrowing.proofs.Rising.{up_to_length}
use Rattle.narrowing.proofs.Told.{Refused, lines_refused, lines_done}
use Rattle.list.specs.Bits.{bit_of}
use Rattle.list.proofs.Sets.{holds_keeps}
use Rattle.entries.specs.Entries.{entries_of, readable, first_wrong}
use Rattle.entries.specs.Judging.{meets_words, asks_nothing}
use Rattle.entries.specs.Finding.{found_in, Kept}
use Rattle.entries.proofs.Meeting.{nothing_met}
use Rattle.books.specs.Book.{Book, book_of}
use Rattle.books.specs.Fills.{found_in as foundInBook}
use Rattle.books.proofs.Fills.{checked_count_lem, found_all}
use Rattle.searching.specs.Searching.{Searched, as_searched, not_searched, writing, found_of, searched_words}

-- n LINES
module _ (set : Charset) (dict list : List ℕ) (n : ℕ) (test : ℕ → Bool) where
  -- of which `wrong` is the first that is no sign
  pub line_wrong_lem : (wrong : ℕ) → wrong ≡ first_wrong set dict (up_to n) → (first_wrong set dict (up_to n) ≡ 0 → ⊥)
      → (not_searched line_wrong wrong, list) ≡ writing n list (found_of set dict n test)
  unfolding writing found_of output
  line_wrong_lem wrong w z = rw (w, ne_eqb (first_wrong set dict (up_to n)) 0 z)

  module _ (z : first_wrong set dict (up_to n) ≡ 0) {met : ℕ} (m : met ≡ length (keep test (up_to n))) where
    pub room_short_lem : length list < met → (not_searched room_short met, list) ≡ writing n list (found_of set dict n test)
    unfolding writing found_of output
    room_short_lem h = rw (z, ← m, lt-ltb (length list) met h)

    pub all_written : met ≤ length list → (after : List ℕ) → after ≡ keep test (up_to n) ++ drop met list
        → (record { number = 0; place = 0; lines = n; written = met }, after) ≡ writing n list (found_of set dict n test)
    unfolding writing found_of output
    all_written h after e = ap (λ x. (record { number = 0; place = 0; lines = n; written = met }, x)) e ∙ rw (z, ← m, le-ltb (length list) met h, m)

-- all entries pass the test that all pass
pub all_count : (n : ℕ) → n ≡ length (keep (λ e. true) (up_to n))
all_count n = sym (ap length (keep_every (up_to n)) ∙ up_to_length n)

pub all_entries : (n : ℕ) (list after : List ℕ) → after ≡ up_to n ++ drop n list → after ≡ keep (λ e. true) (up_to n) ++ drop n list
all_entries n list after e = e ∙ ap (λ l. l ++ drop n list) (sym (keep_every (up_to n)))

pub bits_room : (n : ℕ) → n ≤ 65535 → n / 8 < 8192
bits_room n h = omega arith

-- WITH A SET that has the entries that meet the query, once every line is passed: every entry is listed
module _ (set : Charset) (dict : List ℕ) (n : ℕ) (test : ℕ → Bool) (listed : List ℕ) (all : keep (bit_of listed) (up_to n) ≡ up_to n)
    (r : Answer ℕ Refusal) (f : outcome r ≡ found_in set dict (keep (bit_of listed) (up_to n)) test) where
  found_is : outcome r ≡ found_in set dict (up_to n) test
  found_is = f ∙ ap (λ entries. found_in set dict entries test) all

  pub find_refused : (e : Refusal) → r ≡ Err e → Refused (readable set dict) (up_to n) (number_of e) (place_of e)
  find_refused e was = lines_refused (readable set dict) (up_to n) (length (keep test (up_to n))) _ _ (sym (ap outcome was) ∙ found_is)

  pub find_wrong : (list : List ℕ) (e : Refusal) → r ≡ Err e → (as_searched (Err e), list) ≡ writing n list (found_of set dict n test)
  find_wrong list e was =
      let w = find_refused e was in
      rw w.number (line_wrong_lem set dict list n test (place_of e) w.place w.some)

  module _ {met : ℕ} (was : r ≡ Ok met) where
    pub find_done : (first_wrong set dict (up_to n) ≡ 0) × (met ≡ length (keep test (up_to n)))
    find_done = lines_done (readable set dict) (up_to n) (length (keep test (up_to n))) met (sym (ap outcome was) ∙ found_is)

    module _ {before bits : List ℕ} (k : Kept r (bit_of listed) test n before bits) where
      kept : keep (bit_of bits) (up_to n) ≡ keep test (up_to n)
      kept = holds_keeps (k.holds met was) ∙ sym (keep_keep (bit_of listed) test (up_to n)) ∙ ap (keep test) all

      pub entries-room : (list : List ℕ) → met ≤ length list → length (keep (bit_of bits) (up_to n)) ≤ length list
      entries-room list h = omega (arith, find_done.1, ap length kept)

      pub entries-written : (list after : List ℕ) → after ≡ keep (bit_of bits) (up_to n) ++ drop (length (keep (bit_of bits) (up_to n))) list
          → after ≡ keep test (up_to n) ++ drop met list
      entries-written list after e = e ∙ rw (kept, ← find_done.1)

-- BY THE CONDITIONS OF A QUERY
module _ (set : Charset) (dict list words : List ℕ) where
  abbrev book : Book
  book = book_of (set, dict)

  pub by_dictionary : (x p : ℕ) → refusal x p ≡ line_count dict → (not_searched x p, list) ≡ searched_words set dict list words
  unfolding searched_words writing output
  by_dictionary x p e = rw (checked_count_lem book (done (keep (meets_words set dict words) (entries_of dict))), sym e)

  module _ {n : ℕ} (c : done n ≡ line_count dict) where
    lines_are : n ≡ length (lines_of dict)
    lines_are = (count_whole dict n (sym c)).lines

    -- neither 12 nor 14
    checked : (test : ℕ → Bool) → foundInBook (done test) book ≡ found_of set dict n test
    unfolding found_of
    checked test = checked_count_lem book (done (keep test (entries_of dict))) ∙ rw (sym c, lines_are)

    pub by_met : (r : Searched) (after : List ℕ) → (r, after) ≡ writing n list (found_of set dict n (meets_words set dict words))
        → (r, after) ≡ searched_words set dict list words
    unfolding searched_words
    by_met r after h = h ∙ rw (checked (meets_words set dict words), lines_are)

    pub by_all : asks_nothing words ≡ true → (r : Searched) (after : List ℕ) → (r, after) ≡ writing n list (found_of set dict n (λ e. true))
        → (r, after) ≡ searched_words set dict list words
    unfolding searched_words
    by_all k r after h =
        let met = found_all book (meets_words set dict words) (λ e s. nothing_met words k (sign_of set (line_of dict e)) ∙ s) in
        let all = found_all book (λ e. true) (λ e s. refl) in
        h ∙ ap (writing n list) (sym (checked (λ e. true)) ∙ all ∙ sym met) ∙ rw lines_are
