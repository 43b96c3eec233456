-- The laws of sorting, and of the sort of a filled list.
use Prim.Native.Nat.{ℕ, ◌≤◌, ◌<◌}
use mathlib.Core.Path.{◌≡◌, refl, sym, ap, ◌∙◌}
use mathlib.Core.List.{List, [], ◌∷◌, ◌++◌}
use mathlib.Core.Bool.{Bool, true, false, not, ◌&&◌, ◌||◌, and-false, or_assoc, or_comm}
use borrow.Author.Tests.{le-leb, lt-leb, leb-true, eqb-true, eqb-false, eq-eqb, ne_eqb}
use lib.Dec.{eqb, ltb, leb, lit<}
use lib.ListN.{length, take, drop}
use lib.Seq.{take-append_seam, drop-append_seam}
use Rattle.format.specs.Format.{choose}
use Rattle.format.proofs.Lists.{all_weaker}
use Rattle.token.specs.Refusal.{dictionary_unended, too_many, list_wrong, line_wrong, room_short}
use Rattle.token.specs.Result.{refusal, done, check}
use Rattle.token.proofs.Checks.{Counted, refusal_done, done_counted, check_done, check_counted, and_then_done, and_then_counted}
use Rattle.lines.specs.Checked.{check_few}
use Rattle.lines.specs.Lines.{is_few}
use Rattle.narrowing.specs.Narrowing.{rising, has, distinct, listed, first_bad, check_lines}
use Rattle.narrowing.specs.Form.{Fill, FillLaws}
use Rattle.narrowing.proofs.Distinct.{rising_distinct, distinct_within, no_bad}
use Rattle.narrowing.proofs.Rising.{none_bad, listed_room, listed_valid}
use Rattle.arrangement.specs.Arranged.{insert, arranged}
use Rattle.arrangement.specs.Laws.{Order}
use Rattle.arrangement.proofs.Merging.{arranged_length}
use Rattle.arrangement.proofs.Arranging.{arranged_all}
use Rattle.arrangement.proofs.Prefixes.{prefix_order, by_key}
use Rattle.books.specs.Book.{Book, book_of, other_text, count_in, readable_in}
use Rattle.books.specs.Forms.{GoodBy}
use Rattle.books.specs.Sorting.{prefix_of, entry_before, sorted_in}
use Rattle.books.specs.Fills.{sorted_fill}
use Rattle.books.proofs.Forms.{is_listed}

pub entry_order : (b : Book) → Order (entry_before b)
unfolding entry_before
entry_order b = by_key (λ e. prefix_of (b.sign e)) prefix_order

-- AN ARRANGED LIST is distinct where the list was
equal_swap : (a b : ℕ) → eqb a b ≡ eqb b a
equal_swap a b = go (eqb b a) refl
  where
    go : (t : Bool) → eqb b a ≡ t → eqb a b ≡ t
    go true h = eq-eqb a b (sym (eqb-true b a h))
    go false h = ne_eqb a b (λ e. eqb-false b a h (sym e))

-- two entries ahead of a list, in either order: each is good or not, they are one or not, and each stands in the list or not
ahead_swap : (a b same in_a in_b rest : Bool) → (b && (not (same || in_b) && (a && (not in_a && rest)))) ≡ (a && (not (same || in_a) && (b && (not in_b && rest))))
ahead_swap false false same in_a in_b rest = refl
ahead_swap false true same in_a in_b rest = and-false (not (same || in_b))
ahead_swap true false same in_a in_b rest = sym (and-false (not (same || in_a)))
ahead_swap true true true in_a in_b rest = refl
ahead_swap true true false true true rest = refl
ahead_swap true true false true false rest = refl
ahead_swap true true false false true rest = refl
ahead_swap true true false false false rest = refl

module _ (before : ℕ → ℕ → Bool) where
  insert_has : (i e : ℕ) (l : List ℕ) → has i (insert before e l) ≡ (eqb e i || has i l)
  unfolding has insert
  insert_has i e [] = refl
  insert_has i e (a ∷ l) = go (before a e) (insert_has i e l)
    where
      go : (t : Bool) → has i (insert before e l) ≡ (eqb e i || has i l) → has i (choose t (a ∷ insert before e l) (e ∷ a ∷ l)) ≡ (eqb e i || (eqb a i || has i l))
      go true h =
          ap (λ x. eqb a i || x) h ∙ sym (or_assoc (eqb a i) (eqb e i) (has i l)) ∙ ap (λ x. x || has i l) (or_comm (eqb a i) (eqb e i)) ∙ or_assoc (eqb e i) (eqb a i) (has i l)
      go false h = refl

  insert_distinct : (count e : ℕ) (l : List ℕ) → distinct count (insert before e l) ≡ distinct count (e ∷ l)
  unfolding has distinct insert
  insert_distinct count e [] = refl
  insert_distinct count e (a ∷ l) = go (before a e) (insert_distinct count e l)
    where
      go : (t : Bool) → distinct count (insert before e l) ≡ distinct count (e ∷ l) → distinct count (choose t (a ∷ insert before e l) (e ∷ a ∷ l)) ≡ distinct count (e ∷ a ∷ l)
      go true h =
          ap (λ x. (ltb 0 a && leb a count) && (not (has a (insert before e l)) && x)) h
          ∙ ap (λ x. (ltb 0 a && leb a count) && (not x && distinct count (e ∷ l))) (insert_has a e l ∙ ap (λ x. x || has a l) (equal_swap e a))
          ∙ ahead_swap (ltb 0 e && leb e count) (ltb 0 a && leb a count) (eqb a e) (has e l) (has a l) (distinct count l)
      go false h = refl

  arranged_has : (i : ℕ) (l : List ℕ) → has i (arranged before l) ≡ has i l
  unfolding has arranged
  arranged_has i [] = refl
  arranged_has i (a ∷ l) = insert_has i a (arranged before l) ∙ ap (λ x. eqb a i || x) (arranged_has i l)

  pub arranged_distinct : (count : ℕ) (l : List ℕ) → distinct count (arranged before l) ≡ distinct count l
  unfolding distinct arranged
  arranged_distinct count [] = refl
  arranged_distinct count (a ∷ l) =
      insert_distinct count a (arranged before l)
      ∙ (λ i. (ltb 0 a && leb a count) && (not (arranged_has a l i) && arranged_distinct count l i))

-- THE SORT of a good list refuses nothing but too little room
module _ (b : Book) (k after : List ℕ) (g : GoodBy distinct b k) where
  by_room : (room : ℕ) → sorted_in b (k ++ after) (length k) room ≡ check (leb (length k) room) room_short (length k) (done (arranged (entry_before b) k))
  unfolding sorted_in
  by_room room = rw (g.fine, is_listed distinct b k after g, take-append_seam k after, none_bad (readable_in b) k g.reads)

  pub good_sorted : (room : ℕ) → length k ≤ room → sorted_in b (k ++ after) (length k) room ≡ done (arranged (entry_before b) k)
  good_sorted room h = rw (le-leb (length k) room h) at (by_room room)

  pub good_short : (room : ℕ) → room < length k → sorted_in b (k ++ after) (length k) room ≡ refusal room_short (length k)
  good_short room h = rw (lt-leb (length k) room h) at (by_room room)

-- a good list stays one when it is arranged
pub arranged_good : (b : Book) (k : List ℕ) → GoodBy distinct b k → GoodBy distinct b (arranged (entry_before b) k)
arranged_good b k g =
    record {
      fine = g.fine;
      passes = arranged_distinct (entry_before b) b.count k ∙ g.passes;
      reads = arranged_all (entry_before b) (λ e. readable_in b e ≡ true) k g.reads;
    }

-- a sort that is accepted arranges a good list
pub record WasSorted (b : Book) (list : List ℕ) (n room : ℕ) (entries : List ℕ) : Type 0 where
  pub within : n ≤ length list
  pub good : GoodBy distinct b (take n list)
  pub space : n ≤ room
  pub is : entries ≡ arranged (entry_before b) (take n list)

pub was_sorted : (b : Book) (list : List ℕ) (n room : ℕ) (entries : List ℕ) → sorted_in b list n room ≡ done entries → WasSorted b list n room entries
unfolding sorted_in
was_sorted b list n room entries e =
    let k = take n list in
    let wrong = first_bad (readable_in b) k in
    let a = and_then_done (count_in b) (λ lines. check (listed (distinct lines) list n) list_wrong 0 (check_lines (readable_in b) k (check (leb n room) room_short n (done (arranged (entry_before b) k))))) e in
    let c = count_is b a.0 a.1.0 in
    let x = check_done (listed (distinct a.0) list n) list_wrong 0 (check_lines (readable_in b) k (check (leb n room) room_short n (done (arranged (entry_before b) k)))) a.1.1 in
    let y = check_done (eqb wrong 0) line_wrong wrong (check (leb n room) room_short n (done (arranged (entry_before b) k))) x.1 in
    let z = check_done (leb n room) room_short n (done (arranged (entry_before b) k)) y.1 in
    let d : distinct b.count k ≡ true = rw c (listed_valid (distinct a.0) list n x.0) in
    record {
      within = listed_room (distinct a.0) list n x.0;
      good = record {
        fine = a.1.0 ∙ ap done (sym c);
        passes = d;
        reads = no_bad (readable_in b) k (all_weaker (λ e. (0 < e) × (e ≤ b.count)) (λ e. 0 < e) (λ e w. w.0) k (distinct_within b.count k d)) (eqb-true wrong 0 y.0);
      };
      space = leb-true n room z.0;
      is = sym (cc z.1);
    }
  where
    count_is : (b : Book) (n : ℕ) → count_in b ≡ done n → b.count ≡ n
    count_is b n e = go b.ended (is_few b.count) e
      where
        go : (t u : Bool) → check t dictionary_unended 0 (check u too_many 0 (done b.count)) ≡ done n → b.count ≡ n
        go true true e = cc
        go true false e = refusal_done too_many 0 e
        go false u e = refusal_done dictionary_unended 0 e

-- no refusal of it has the number 0
pub sorted_counted : (b : Book) (list : List ℕ) (n room : ℕ) → Counted (sorted_in b list n room)
unfolding sorted_in
sorted_counted b list n room =
    let k = take n list in
    let room-left = check (leb n room) room_short n (done (arranged (entry_before b) k)) in
    and_then_counted (count_in b) (λ lines. check (listed (distinct lines) list n) list_wrong 0 (check_lines (readable_in b) k room-left))
    (check_counted b.ended dictionary_unended 0 (check_few b.count (done b.count)) (lit< tt)
    (check_counted (is_few b.count) too_many 0 (done b.count) (lit< tt) (done_counted b.count)))
    (λ lines.
    check_counted (listed (distinct lines) list n) list_wrong 0 (check_lines (readable_in b) k room-left) (lit< tt)
    (check_counted (eqb (first_bad (readable_in b) k) 0) line_wrong (first_bad (readable_in b) k) room-left (lit< tt)
    (check_counted (leb n room) room_short n (done (arranged (entry_before b) k)) (lit< tt) (done_counted (arranged (entry_before b) k)))))

-- what rises has no entry twice
pub distinct_fill : (g : Fill Book) → FillLaws book_of other_text (GoodBy rising) g → FillLaws book_of other_text (GoodBy distinct) g
distinct_fill g m =
    record {
      good = λ b list f.
          let k = m.good b list f in
          record { fine = k.fine; passes = rising_distinct b.count (g.start b) k.passes; reads = k.reads };
      memory = m.memory;
      count = m.count;
      same = m.same;
    }

module _ (room : ℕ) (g : Fill Book) (m : FillLaws book_of other_text (GoodBy distinct) g) where
  abbrev ordered : Book → List ℕ
  ordered b = arranged (entry_before b) (g.start b)

  as_long : (b : Book) → length (ordered b) ≡ length (g.start b)
  as_long b = arranged_length (entry_before b) (g.start b)

  pub fill_sorted : (b : Book) (list : List ℕ) → (sorted_fill room g).Fills b list → sorted_in b (g.memory b list) (g.count b list) room ≡ done (ordered b)
  fill_sorted b list f =
      let k = g.start b in
      rw (m.memory b list f.0, m.count b list f.0)
      (good_sorted b k (drop (length k) list) (m.good b list f.0) room (rw (← m.count b list f.0) f.1))

  pub fill_short : (b : Book) (list : List ℕ) → g.Fills b list → room < g.count b list
      → sorted_in b (g.memory b list) (g.count b list) room ≡ refusal room_short (g.count b list)
  fill_short b list f h =
      let k = g.start b in
      rw (m.memory b list f, m.count b list f) (good_short b k (drop (length k) list) (m.good b list f) room (rw (← m.count b list f) h))

  pub sorted_fill_lem : FillLaws book_of other_text (GoodBy distinct) (sorted_fill room g)
  sorted_fill_lem =
      record {
        good = λ b list f. arranged_good b (g.start b) (m.good b list f.0);
        memory = λ b list f.
            let k = g.start b in
            rw (fill_sorted b list f, m.memory b list f.0, m.count b list f.0, drop-append_seam k (drop (length k) list), as_long b);
        count = λ b list f. m.count b list f.0 ∙ sym (as_long b);
        same = λ t list f. m.same t list f.0;
      }
