-- Signbox items and the variance, up to the end of the text: one law for each return.
use Prim.Native.Nat.{ℕ, ◌+◌, ◌≤◌}
use mathlib.Core.List.{List, [], ◌∷◌}
use mathlib.Core.Path.{◌≡◌, refl, sym, ap, ◌∙◌}
use mathlib.Core.Bool.{Bool, true, false, not, ◌||◌}
use mathlib.Core.Option.{Option}
use lib.ListN.{length}
use lib.Seq.{sets}
use native.Mathlib.Omega.{arith}
use Rattle.format.specs.Format.{many}
use Rattle.format.specs.Places.{Outcome, fine, refused, ends_short}
use Rattle.format.specs.Located.{Located, found, wrong_at, short_here, locate, and_then, on_found, ended}
use Rattle.format.proofs.At.{got, sequence_at_got}
use Rattle.format.proofs.Ends.{on_fine, ended_on}
use Rattle.format.proofs.Many.{many_lawful}
use Rattle.format.proofs.Reading.{same_fine}
use Rattle.std.specs.Prelude.{Result as Answer, Ok, Err, ⊤}
use Rattle.std.specs.Option.{option_or}
use Rattle.token.specs.declared.refusal.Refusal.{Refusal}
use Rattle.token.specs.declared.refusal.Refusal.TheVariants.{TextWrong, TextShort}
use Rattle.token.specs.Refusal.{number_of, place_of}
use Rattle.token.specs.Result.{refusal, done, outcome, and_then as and-then, of_outcome}
use Rattle.token.proofs.Checks.{refusal_done}
use Rattle.querygrammar.specs.declared.Edition.{Edition}
use Rattle.querygrammar.specs.Spelling.{spelling}
use Rattle.querygrammar.specs.Query.{SoughtText, signbox_list, Figures, variance, variance_of, TailText, tail}
use Rattle.querygrammar.proofs.Items.{lawful}
use Rattle.querygrammar.proofs.Query.{signbox_lists_lawful}
use Rattle.queryitem.specs.Words.{spare}
use Rattle.queryitem.specs.Pieces.{answered}
use Rattle.queryitem.proofs.Chains.{FailsAs, answered_fails}
use Rattle.querypart.specs.declared.items.Count.{Count}
use Rattle.querypart.specs.Spots.{all_spots}
use Rattle.querypart.specs.Inner.{told_end, variance_end, first_of, item, all_words, all_few, counted, ItemsIn}
use Rattle.querypart.proofs.Rows.{item_open}
use Rattle.querypart.proofs.Lists.{fails_on}
use Rattle.query.specs.Inner.{limits, LimitedInto, tail_limits, TailIn}
use Rattle.query.proofs.Putting.{limits_passed}

-- WHAT IS KNOWN OF ITEMS BY THEIR ANSWER

module _ (e : Edition) (boxed : Bool) (s : List ℕ) (at from : ℕ) (r : Answer Count Refusal) (o p : List ℕ) (v : ItemsIn e boxed s at from r o p) where
  abbrev all : Located (List (item e boxed).Says)
  all = locate (many (item e boxed).format) s at

  -- items that were refused
  pub items_failed : (d : Refusal) → r ≡ Err d → FailsAs (length s) all d
  items_failed d z = answered_fails (counted (item e boxed) v.row at) (length s) all d (sym v.is ∙ z)

  -- items that were read
  pub record Read (m : Count) : Type 0 where
    pub items : List (item e boxed).Says
    pub is : locate (many (item e boxed).format) s at ≡ found items m.next
    pub count : m.count ≡ length items
    pub first : m.reversed ≡ first_of (all_spots (item e boxed).format (item e boxed).spots at items)
    pub crowd : m.crowded ≡ not (all_few (item e boxed) items)
    pub held : from + length (all_words (item e boxed) items) + spare ≤ length o → all_few (item e boxed) items ≡ true
        → (p ≡ sets o from (all_words (item e boxed) items)) × (m.row ≡ from + length (all_words (item e boxed) items))
    pub rows : m.row ≤ length o

  read_go : (m : Count) (l : Located (List (item e boxed).Says)) → all ≡ l → answered (counted (item e boxed) v.row at) (length s) l ≡ Ok m → Read m
  read_go m (found l i) x c =
      let z : m ≡ counted (item e boxed) v.row at l i = cc in
      let q : all ≡ found l m.next = x ∙ ap (found l) (sym (ap (λ k. k.next) z)) in
      let row : m.row ≡ v.row = ap (λ k. k.row) z in
      record {
        items = l;
        is = q;
        count = ap (λ k. k.count) z;
        first = ap (λ k. k.reversed) z;
        crowd = ap (λ k. k.crowded) z;
        held = λ n k. let h = v.holds l m.next q n k in (h.0, row ∙ h.1);
        rows = omega (arith, row, v.room);
      }
  read_go m (wrong_at p) x c = absurd (cc c)
  read_go m short_here x c = absurd (cc c)

  pub items_read : (m : Count) → r ≡ Ok m → Read m
  items_read m z = read_go m all refl (sym v.is ∙ z)

  pub items_inside : (m : Count) → r ≡ Ok m → at ≤ length s → m.next ≤ length s
  items_inside m z h =
      let d = items_read m z in
      let g = item_open e boxed in
      (got 1 (many (item e boxed).format) (many_lawful 1 (item e boxed).format g.lawful g.solid) s at h d.items m.next d.is).room

-- THE TAIL

end_value : {A : Type 0} (to : A → ℕ) (size : ℕ) (o : Outcome A) (v : ℕ) → told_end to size o ≡ Ok v → (a : A) × (o ≡ fine a) × (to a ≡ v)
end_value to size (fine a) v e = (a, refl, cc)
end_value to size (refused p) v e = absurd (cc e)
end_value to size ends_short v e = absurd (cc e)

-- a refusal, as the text's
pub of_fails : {A : Type 0} (size : ℕ) (l : Located A) (d : Refusal) → FailsAs size l d → of_outcome size (ended 1 size l) ≡ refusal (number_of d) (place_of d)
of_fails size (found a i) d h = absurd h
of_fails size (wrong_at p) d h = rw h refl
of_fails size short_here d h = rw h refl

-- after a prefix condition of a kind whose items were counted as c
module _ (e : Edition) (s : List ℕ) (kind : ℕ) (c : Count) (inside : c.next ≤ length s) where
  abbrev at : ℕ
  at = c.next

  abbrev goes : List (SoughtText (spelling e).Says) → ℕ → Located (TailText (spelling e).Says)
  goes l i = on_found (λ f. (l, f)) (locate variance s i)

  tail_at : locate (tail (spelling e)) s at ≡ and_then (locate (many (signbox_list (spelling e))) s at) goes
  tail_at =
      sequence_at_got (many (signbox_list (spelling e))) (λ l. variance) s at (got 1 (many (signbox_list (spelling e))) (signbox_lists_lawful (spelling e) (lawful e)) s at inside)

  abbrev whole : Outcome (TailText (spelling e).Says)
  whole = ended 1 (length s) (locate (tail (spelling e)) s at)

  -- the tail is refused: as a text, and the words do not matter
  tail_not : (o p : List ℕ) (d : Refusal) → of_outcome (length s) whole ≡ refusal (number_of d) (place_of d) → TailIn e s kind c o (Err d) p
  tail_not o p d x = record { is = sym (ap (λ r. and-then r (tail_limits e c)) x); holds = λ t f. refusal_done (number_of d) (place_of d) (sym x ∙ ap (of_outcome (length s)) f) }

  module _ (o p : List ℕ) (r : Answer Count Refusal) (v : ItemsIn e true s c.next c.row r o p) where
    pub tail_refused : (d : Refusal) → r ≡ Err d → TailIn e s kind c o (Err d) p
    tail_refused d z =
        let l = locate (many (signbox_list (spelling e))) s at in
        tail_not o p d (ap (λ l. of_outcome (length s) (ended 1 (length s) l)) tail_at ∙ of_fails (length s) (and_then l goes) d (fails_on (length s) l goes d (items_failed e true s at c.row r o p v d z)))

    module _ (m : Count) (z : r ≡ Ok m) (t : Answer ℕ Refusal) (told : t ≡ variance_end s m.next) where
      abbrev k : Read e true s at c.row r o p v m
      k = items_read e true s at c.row r o p v m z

      abbrev last : Outcome (Option Figures)
      last = ended 1 (length s) (locate variance s m.next)

      tail-end : whole ≡ on_fine (λ f. (k.items, f)) last
      tail-end = ap (ended 1 (length s)) (tail_at ∙ ap (λ l. and_then l goes) k.is) ∙ ended_on 1 (length s) (λ f. (k.items, f)) (locate variance s m.next)

      pub tail-fails : (d : Refusal) → t ≡ Err d → TailIn e s kind c o (Err d) p
      unfolding variance_end on_fine
      tail-fails d x = tail_not o p d (ap (of_outcome (length s)) tail-end ∙ go last (sym told ∙ x))
        where
          go : (l : Outcome (Option Figures)) → told_end variance_of (length s) l ≡ Err d → of_outcome {A = TailText (spelling e).Says} (length s) (on_fine (λ f. (k.items, f)) l) ≡ refusal (number_of d) (place_of d)
          go (fine f) y = absurd (cc y)
          go (refused q) y = let w : d ≡ TextWrong q = cc in rw w refl
          go ends_short y = let w : d ≡ TextShort (length s) = cc in rw w refl

      tail-as : (h : Answer ⊤ Refusal) (q : List ℕ) (a : TailText (spelling e).Says) → whole ≡ fine a → outcome h ≡ tail_limits e c a
          → (tail_limits e c a ≡ done tt → c.row + length (all_words (item e true) a.0) + spare ≤ length o → q ≡ sets (sets o c.row (all_words (item e true) a.0)) 0 (kind ∷ c.count ∷ length a.0 ∷ variance_of a.1 ∷ []))
          → TailIn e s kind c o h q
      tail-as h q a x is put = record {
        is = is ∙ rw x refl;
        holds = λ b y n. let same : a ≡ b = same_fine (sym x ∙ y) in rw same at (put (rw same n));
      }

      pub tail-fine : (u : ℕ) (h : Answer ⊤ Refusal) (q : List ℕ) → t ≡ Ok u → LimitedInto kind c.count m.count u (c.crowded || m.crowded) (option_or c.reversed m.reversed) p h q → TailIn e s kind c o h q
      unfolding variance_end on_fine
      tail-fine u h q x l =
          let y = end_value variance_of (length s) last u (sym told ∙ x) in
          let a : TailText (spelling e).Says = (k.items, y.0) in
          let same : limits c.count m.count (c.crowded || m.crowded) (option_or c.reversed m.reversed) ≡ tail_limits e c a =
          (λ i. limits c.count (k.count i) (c.crowded || k.crowd i) (option_or c.reversed (k.first i))) in
          tail-as h q a (tail-end ∙ ap (on_fine (λ f. (k.items, f))) y.1) (l.is ∙ same)
          (λ n room.
          let w = limits_passed c.count (length k.items) (c.crowded || not (all_few (item e true) k.items)) (option_or c.reversed (first_of (all_spots (item e true).format (item e true).spots c.next k.items))) n in
          l.holds (same ∙ n) ∙ (λ i. sets ((k.held room (all-few c.crowded (all_few (item e true) k.items) w.alternatives)).0 i) 0 (kind ∷ c.count ∷ k.count i ∷ sym y.2 i ∷ [])))
        where
          all-few : (s t : Bool) → s || not t ≡ false → t ≡ true
          all-few s true e = refl
          all-few true false e = sym e
          all-few false false e = sym e
