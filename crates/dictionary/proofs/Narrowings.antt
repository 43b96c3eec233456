-- What narrowing comes to in each case: one law for each return.
use Prim.Native.Nat.{ℕ, ◌/◌, ◌-◌, ◌≤◌, ◌<◌}
use mathlib.Core.Path.{◌≡◌, refl, sym, ap, ◌∙◌}
use mathlib.Core.List.{List}
use mathlib.Core.Bool.{Bool, true, false, ◌&&◌}
use native.Mathlib.Omega.{arith}
use lib.ListN.{length, take, drop, length-take}
use Rattle.format.specs.Format.{All, keep}
use Rattle.charset.specs.declared.Charset.{Charset}
use Rattle.std.specs.Prelude.{None, Some, Result as Answer, Ok, Err, ⊤}
use Rattle.token.specs.declared.refusal.Refusal.{Refusal}
use Rattle.token.specs.declared.refusal.Refusal.TheVariants.{LineWrong}
use Rattle.token.specs.Refusal.{list_wrong, number_of, place_of}
use Rattle.token.specs.Result.{refusal, done, outcome}
use Rattle.querygrammar.specs.declared.Edition.{Edition}
use Rattle.query.specs.Inner.{ReadInto}
use Rattle.queryitem.specs.Words.{word_count}
use Rattle.lines.specs.Lines.{lines as lines_of}
use Rattle.lines.specs.Checked.{line_count}
use Rattle.lines.proofs.Counts.{count_whole}
use Rattle.narrowing.specs.Narrowing.{Narrowed, as_narrowed, up_to, rising, distinct, listed, some_entry, not_narrowed, filled, narrowed_by}
use Rattle.narrowing.proofs.Calls.{query_refused, dictionary_refused, list-refused, line_refused, call-done, narrowed_alike}
use Rattle.format.proofs.Keeping.{keep_length, keep_agree}
use Rattle.narrowing.proofs.Rising.{listed_room, listed_valid}
use Rattle.format.proofs.Lists.{all_both}
use Rattle.narrowing.proofs.Distinct.{distinct_within, rising_distinct, none_in_lines}
use Rattle.narrowing.proofs.Told.{told_bad, told_good, lines_refused, lines_done}
use Rattle.list.specs.Bits.{bit_of}
use Rattle.list.proofs.Sets.{inside}
use Rattle.entries.specs.Entries.{readable, first_wrong}
use Rattle.entries.specs.Judging.{meets_words}
use Rattle.entries.specs.Finding.{found_in, Kept}
use Rattle.dictionary.specs.Narrowing.{test_of, narrowed, narrowed_sorted}
use Rattle.dictionary.specs.NarrowingLaws.{NarrowingLaws}
use Rattle.dictionary.specs.Inner.{narrowed_words, narrowed_text, Apart, Taken, Met, IsWrong}
use Rattle.dictionary.proofs.Asked.{asked_refused, asked_done}

pub kept_most : (test : ℕ → Bool) (list : List ℕ) (n kept : ℕ) → kept ≡ length (keep test (take n list)) → kept ≤ n
kept_most test list n kept e = omega (arith, keep_length test (take n list), length-take n list)

-- BY THE CONDITIONS OF A QUERY, for each test of a list
module _ (valid : ℕ → List ℕ → Bool) (set : Charset) (dict list : List ℕ) (n : ℕ) (words : List ℕ) where
  pub by_dictionary : (x p : ℕ) → refusal x p ≡ line_count dict → (not_narrowed x p, list) ≡ narrowed_words valid set dict list n words
  unfolding narrowed_words
  by_dictionary x p e = dictionary_refused valid (readable set dict) list n refl (sym e)

  pub by_11 : {lines : ℕ} → done lines ≡ line_count dict → (b : Bool) → b ≡ listed (valid lines) list n → b ≡ false
      → (not_narrowed list_wrong 0, list) ≡ narrowed_words valid set dict list n words
  unfolding narrowed_words
  by_11 e b l k = list-refused valid (readable set dict) list n refl (sym e) (sym l ∙ k)

-- neither the dictionary nor the list is refused, whose set is known
pub record Ready (valid : ℕ → List ℕ → Bool) (lists : ℕ → List ℕ → List ℕ → Type 0) (dict list : List ℕ) (n lines : ℕ) (marked : List ℕ) : Type 0 where
  pub counted : line_count dict ≡ done lines
  pub good : listed (valid lines) list n ≡ true
  pub set : lists lines (take n list) marked

module _ {valid : ℕ → List ℕ → Bool} {lists : ℕ → List ℕ → List ℕ → Type 0} (form : Taken valid lists) {dict list : List ℕ} {n lines : ℕ} {marked : List ℕ}
    (x : Ready valid lists dict list n lines marked) where
  pub ready_list : n ≤ length list
  ready_list = listed_room (valid lines) list n x.good

  pub ready_lines : lines ≡ length (lines_of dict)
  ready_lines = (count_whole dict lines x.counted).lines

  pub ready_few : lines ≤ 65535
  ready_few = (count_whole dict lines x.counted).few

  passes : valid lines (take n list) ≡ true
  passes = listed_valid (valid lines) list n x.good

  within : All (λ e. (0 < e) × (e ≤ lines)) (take n list)
  within = form.within lines (take n list) passes

  pub ready_inside : {m : ℕ} → m ≡ 8192 → All (λ e. e / 8 < m) (take n list)
  ready_inside s = inside lines (take n list) within (omega (arith, ready_few))

  module _ (set : Charset) (words : List ℕ) where
    -- the walk was refused, and this is the refusal in list order
    pub by_13 : (e : Refusal) → IsWrong set dict (take n list) e → (as_narrowed (Err e), list) ≡ narrowed_words valid set dict list n words
    unfolding narrowed_words
    by_13 e w =
        rw w.number (line_refused valid (readable set dict) list n refl x.counted (place_of e) x.good w.place (λ z. w.some (sym w.place ∙ z)))

    module _ (r : Answer ℕ Refusal) (f : outcome r ≡ found_in set dict (keep (bit_of marked) (up_to lines)) (meets_words set dict words)) where
      pub walk_met : (e : Refusal) → r ≡ Err e → Met valid lists set dict lines list n marked e
      walk_met e was =
          let w = lines_refused (readable set dict) (keep (bit_of marked) (up_to lines)) (length (keep (meets_words set dict words) (keep (bit_of marked) (up_to lines)))) _ _
          (sym (ap outcome was) ∙ f) in
          record { counted = ready_lines; few = ready_few; passes = x.good; holds = x.set; wrong = record { number = w.number; place = w.place; some = w.some } }

      -- no line is bad, and those that meet the query are in another set
      module _ {met : ℕ} (was : r ≡ Ok met) {empty bits : List ℕ} (k : Kept r (bit_of marked) (meets_words set dict words) lines empty bits) where
        good : first_wrong set dict (take n list) ≡ 0
        good =
            form.good lines (take n list) marked passes x.set (readable set dict)
            (lines_done (readable set dict) (keep (bit_of marked) (up_to lines)) (length (keep (meets_words set dict words) (keep (bit_of marked) (up_to lines)))) met
            (sym (ap outcome was) ∙ f)).0

        same : keep (bit_of bits) (take n list) ≡ keep (meets_words set dict words) (take n list)
        same =
            keep_agree (bit_of bits) (meets_words set dict words) (take n list)
            (all_both (λ e. (0 < e) × (e ≤ lines)) (λ e. bit_of marked e ≡ true) (λ e. bit_of bits e ≡ meets_words set dict words e)
            (λ e h t. (k.holds met was).has e h.0 h.1 ∙ ap (λ b. b && meets_words set dict words e) t) (take n list) within (form.marked lines (take n list) marked passes x.set))

        pub by-done : (kept : ℕ) (after : List ℕ) → kept ≡ length (keep (bit_of bits) (take n list)) → after ≡ filled n (keep (bit_of bits) (take n list)) (drop n list)
            → (record { number = 0; place = 0; kept = kept; dropped = n - kept }, after) ≡ narrowed_words valid set dict list n words
        unfolding narrowed_words
        by-done kept after ek ea =
            call-done valid (readable set dict) list n refl x.counted kept after x.good good (ek ∙ ap length same) (ea ∙ ap (λ e. filled n e (drop n list)) same)

-- THE FIRST BAD LINE IN LIST ORDER
module _ {set : Charset} {dict : List ℕ} {lines : ℕ} {list : List ℕ} {n : ℕ} {marked : List ℕ} {met : Refusal} (m : Met distinct Apart set dict lines list n marked met) where
  some_bad : first_wrong set dict (take n list) ≡ 0 → ⊥
  some_bad z =
      let d = distinct_within lines (take n list) (listed_valid (distinct lines) list n m.passes) in
      m.wrong.some (none_in_lines (bit_of marked) lines (take n list) d m.holds.marks.is (readable set dict) z)

  pub listed_wrong : (k : ℕ) → Some k ≡ some_entry (first_wrong set dict (take n list)) → IsWrong set dict (take n list) (LineWrong k)
  listed_wrong k h = let w = told_bad k _ h in record { number = refl; place = w.is; some = w.some }

  pub never_good : None ≡ some_entry (first_wrong set dict (take n list)) → IsWrong set dict (take n list) met
  never_good h = absurd (some_bad (told_good _ h))

-- WITH A QUERY AS TEXT
module _ (valid : ℕ → List ℕ → Bool) {e : Edition} {s : List ℕ} {q : Answer ⊤ Refusal} {words : List ℕ} (v : ReadInto e s word_count q words) (set : Charset) (dict list : List ℕ) (n : ℕ) where
  pub with_refused : {d : Refusal} → q ≡ Err d → (not_narrowed (number_of d) (place_of d), list) ≡ narrowed_text valid set dict list n (e, s)
  unfolding narrowed_text
  with_refused was = query_refused valid (readable set dict) list n (line_count dict) (asked_refused v set dict was)

  pub with_done : {u : ⊤} → q ≡ Ok u → (r : Narrowed) (after : List ℕ) → (r, after) ≡ narrowed_words valid set dict list n words
      → (r, after) ≡ narrowed_text valid set dict list n (e, s)
  unfolding narrowed_words narrowed_text
  with_done was r after j = j ∙ ap (λ t. narrowed_by t (line_count dict) valid (readable set dict) list n) (sym (asked_done v set dict was))

-- BOTH FORMS
pub narrowing_laws : NarrowingLaws
unfolding narrowed narrowed_sorted
narrowing_laws =
    record {
      alike = λ set dict list n query h.
          narrowed_alike distinct rising (readable set dict) list n (test_of set dict query) (line_count dict) (λ lines e.
          let rises : rising lines (take n list) ≡ true = rw (count_whole dict lines e).lines h in
          rising_distinct lines (take n list) rises ∙ sym rises);
    }
