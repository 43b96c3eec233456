-- The laws of what fills a list, and of searching.
use Prim.Native.Nat.{ℕ}
use mathlib.Core.Path.{◌≡◌, refl, sym, ap, ◌∙◌}
use mathlib.Core.List.{List}
use mathlib.Core.Bool.{Bool, true, false}
use native.Mathlib.Omega.{arith}
use borrow.Author.Tests.{eqb-true}
use lib.Dec.{eqb, ltb, lit<}
use lib.ListN.{length}
use Rattle.format.specs.Format.{choose, All, keep}
use Rattle.format.proofs.Lists.{all_weaker}
use Rattle.token.specs.Result.{Result, refusal, done, check, on_done, and_then, in_room, output}
use Rattle.token.proofs.Checks.{Counted, refusal_done, done_counted, check_done, check_counted, and_then_counted}
use Rattle.lines.specs.Lines.{is_few}
use Rattle.lines.specs.Checked.{check_few}
use Rattle.narrowing.specs.Narrowing.{rising, first_bad, check_lines}
use Rattle.narrowing.specs.Form.{asks, FillLaws}
use Rattle.format.proofs.Keeping.{keep_every, keep_all, keep_agree}
use Rattle.narrowing.proofs.Rising.{up_to_rising, rising_keep, all_readable}
use Rattle.books.specs.Book.{Book, book_of, other_text, count_in, readable_in, entries_in, checked_in, Sound}
use Rattle.books.specs.Forms.{GoodBy}
use Rattle.books.specs.Fills.{fill_by, found_in, met_in, opening_in}
use Rattle.books.proofs.Rewriting.{same_book}

-- a list memory takes the entries, where the answer's number is 0
wrote : (number : Result (List ℕ) → ℕ) → ((n p : ℕ) → number (refusal n p) ≡ n) → (room : ℕ) (r : Result (List ℕ)) → Counted r → number (in_room room r) ≡ 0
    → (k : List ℕ) × ((r ≡ done k) × (in_room room r ≡ done k))
wrote number told room (refusal n p) h e = absurd (omega (arith, told n p, h n p refl))
wrote number told room (done k) h e = (k, (refl, go (ltb room (length k)) e))
  where
    go : (t : Bool) → number (choose t (refusal 6 (length k)) (done k)) ≡ 0 → choose t (refusal 6 (length k)) (done k) ≡ done k
    go true e = absurd (omega (arith, told 6 (length k)))
    go false e = refl

-- the answer has the refusal's number, and the number of entries written
pub record AnswerLaws (number count : Book → Result (List ℕ) → ℕ) : Type 0 where
  pub refused : (b : Book) (n p : ℕ) → number b (refusal n p) ≡ n
  pub counted : (b : Book) (k : List ℕ) → count b (done k) ≡ length k

-- `start` is written, from a sound book only, and is good
pub record EntriesLaws (Good : Book → List ℕ → Type 0) (entries : Book → Result (List ℕ)) (start : Book → List ℕ) : Type 0 where
  pub counted : (b : Book) → Counted (entries b)
  pub sound : (b : Book) (k : List ℕ) → entries b ≡ done k → Sound b × (start b ≡ k)
  pub good : (b : Book) → Sound b → Good b (start b)

module _ {Good : Book → List ℕ → Type 0} (number count : Book → Result (List ℕ) → ℕ) (answers : AnswerLaws number count)
    (entries : Book → Result (List ℕ)) (start : Book → List ℕ) (laws : EntriesLaws Good entries start) where
  -- where it is accepted the book is sound, and its entries are in room
  pub fills_from : (b : Book) (list : List ℕ) → (fill_by number count entries start).Fills b list → Sound b × (in_room (length list) (entries b) ≡ done (start b))
  fills_from b list f =
      let w = wrote (number b) (answers.refused b) (length list) (entries b) (laws.counted b) f in
      let s = laws.sound b w.0 w.1.0 in
      (s.0, w.1.1 ∙ ap done (sym s.1))

  pub fill_laws : FillLaws book_of other_text Good (fill_by number count entries start)
  unfolding output
  fill_laws =
      record {
        good = λ b list f. laws.good b (fills_from b list f).0;
        memory = λ b list f. rw (fills_from b list f).1;
        count = λ b list f. rw (fills_from b list f).1 (answers.counted b (start b));
        same = λ t list f. same_book t (fills_from (book_of t) list f).0;
      }

-- WHAT IS REFUSED AS 12, 14, 13
abbrev wrong : Book → ℕ
wrong b = first_bad (readable_in b) (entries_in b)

module _ (b : Book) (k : List ℕ) where
  pub checked_counted : Counted (checked_in b (done k))
  checked_counted =
      check_counted b.ended 12 0 (check_few b.count (check_lines (readable_in b) (entries_in b) (done k))) (lit< tt)
      (check_counted (is_few b.count) 14 0 (check_lines (readable_in b) (entries_in b) (done k)) (lit< tt)
      (check_counted (eqb (wrong b) 0) 13 (wrong b) (done k) (lit< tt)
      (done_counted k)))

  pub checked_sound : (j : List ℕ) → checked_in b (done k) ≡ done j → Sound b × (k ≡ j)
  checked_sound j e =
      let x = check_done b.ended 12 0 (check_few b.count (check_lines (readable_in b) (entries_in b) (done k))) e in
      let y = check_done (is_few b.count) 14 0 (check_lines (readable_in b) (entries_in b) (done k)) x.1 in
      let z = check_done (eqb (wrong b) 0) 13 (wrong b) (done k) y.1 in
      (record { whole = x.0; few = y.0; good = eqb-true (wrong b) 0 z.0 }, cc z.1)

  pub checked_refused : (number place : ℕ) → checked_in b (done k) ≡ refusal number place → (r : Result (List ℕ)) → checked_in b r ≡ refusal number place
  checked_refused number place e r = go b.ended (is_few b.count) (eqb (wrong b) 0) e
    where
      go : (t u v : Bool) → check t 12 0 (check u 14 0 (check v 13 (wrong b) (done k))) ≡ refusal number place → check t 12 0 (check u 14 0 (check v 13 (wrong b) r)) ≡ refusal number place
      go true true true e = refusal_done number place (sym e)
      go true true false e = cc
      go true false v e = cc
      go false u v e = cc

-- 12 and 14 are those of the line count
pub checked_count_lem : {A : Type 0} (b : Book) (r : Result A) → checked_in b r ≡ and_then (count_in b) (λ n. check_lines (readable_in b) (entries_in b) r)
checked_count_lem {A} b r = go b.ended (is_few b.count)
  where
    lines : Result A
    lines = check_lines (readable_in b) (entries_in b) r

    go : (t u : Bool) → check t 12 0 (check u 14 0 lines) ≡ and_then (check t 12 0 (check u 14 0 (done b.count))) (λ n. lines)
    go true true = refl
    go true false = refl
    go false u = refl

pub sound_checked : {A : Type 0} (b : Book) → Sound b → (r : Result A) → checked_in b r ≡ r
sound_checked b s r = rw (s.whole, s.few, s.good)

-- those entries of a sound book that pass a test are a good list
pub sound_read : (b : Book) → Sound b → All (λ e. readable_in b e ≡ true) (entries_in b)
sound_read b s = all_readable (readable_in b) 0 b.count (entries_in b) (up_to_rising b.count) s.good

pub sound_good : (b : Book) → Sound b → (test : ℕ → Bool) → GoodBy rising b (keep test (entries_in b))
sound_good b s test =
    record {
      fine = rw (s.whole, s.few);
      passes = rising_keep test 0 b.count (entries_in b) (up_to_rising b.count);
      reads = keep_all (λ e. readable_in b e ≡ true) test (entries_in b) (sound_read b s);
    }

-- SEARCHING
module _ (b : Book) where
  found_counted : (query : Result (ℕ → Bool)) → Counted query → Counted (found_in query b)
  found_counted query h = and_then_counted query (λ test. checked_in b (done (keep test (entries_in b)))) h (λ test. checked_counted b (keep test (entries_in b)))

  pub found_sound : (query : Result (ℕ → Bool)) (k : List ℕ) → found_in query b ≡ done k → Sound b × (met_in query b ≡ k)
  found_sound (refusal number place) k e = refusal_done number place e
  found_sound (done test) k e = checked_sound b (keep test (entries_in b)) k e

  -- a query's refusal stands, whatever the book
  pub found_refused : (number place : ℕ) → found_in (refusal number place) b ≡ refusal number place
  found_refused number place = refl

  -- in a sound book only the query is refused
  pub sound_found : Sound b → (query : Result (ℕ → Bool)) → found_in query b ≡ on_done (λ test. keep test (entries_in b)) query
  sound_found s (refusal number place) = refl
  sound_found s (done test) = sound_checked b s (done (keep test (entries_in b)))

  -- by a query that every sign meets it writes what opening writes
  pub found_all : (test : ℕ → Bool) → ((e : ℕ) → readable_in b e ≡ true → test e ≡ true) → found_in (done test) b ≡ opening_in b
  found_all test meets = go b.ended (is_few b.count) (eqb (wrong b) 0) refl refl refl
    where
      all : Sound b → keep test (entries_in b) ≡ entries_in b
      all s =
          keep_agree test (λ e. true) (entries_in b) (all_weaker (λ e. readable_in b e ≡ true) (λ e. test e ≡ true) meets (entries_in b) (sound_read b s))
          ∙ keep_every (entries_in b)

      go : (t u v : Bool) → b.ended ≡ t → is_few b.count ≡ u → eqb (wrong b) 0 ≡ v
          → check t 12 0 (check u 14 0 (check v 13 (wrong b) (done (keep test (entries_in b)))))
          ≡ check t 12 0 (check u 14 0 (check v 13 (wrong b) (done (entries_in b))))
      go true true true x y z = ap done (all (record { whole = x; few = y; good = eqb-true (wrong b) 0 z }))
      go true true false x y z = refl
      go true false v x y z = refl
      go false u v x y z = refl

-- what a query says of a book, or how it is refused
pub search_laws : (says : Book → Result (ℕ → Bool)) → ((b : Book) → Counted (says b)) → EntriesLaws (GoodBy rising) (λ b. found_in (says b) b) (λ b. met_in (says b) b)
search_laws says counted =
    record {
      counted = λ b. found_counted b (says b) (counted b);
      sound = λ b. found_sound b (says b);
      good = λ b s. sound_good b s (asks (says b));
    }
