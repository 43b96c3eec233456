-- The loops over further alternatives and over items, once for every sort: one law for each way on or out.
use Prim.Native.Nat.{ℕ, ◌+◌, ◌≤◌, ◌<◌}
use mathlib.Core.List.{List, [], ◌∷◌, ◌++◌, append-nil, append_assoc}
use mathlib.Core.Path.{◌≡◌, refl, sym, ap, ◌∙◌}
use mathlib.Core.Bool.{Bool, true, false, ◌&&◌, and-eq-true_iff}
use lib.ListN.{length, length-append}
use lib.Seq.{sets}
use native.Mathlib.Omega.{arith}
use borrow.Author.Tests.{lt-ltb, le-ltb}
use Rattle.format.specs.Format.{Format, many, write_all, every}
use Rattle.format.specs.Located.{Located, found, wrong_at, short_here, locate}
use Rattle.format.proofs.At.{Got}
use Rattle.format.proofs.Loop.{Walk, walk_start, open_got, open_on, open_stop, open_end, open_bad, open_cut}
use Rattle.format.proofs.Open.{Open}
use Rattle.std.specs.Prelude.{Result as Answer, Ok, Err, Option as Optional, None}
use Rattle.std.specs.Option.{option_or}
use Rattle.token.specs.declared.refusal.Refusal.{Refusal}
use Rattle.token.specs.declared.refusal.Refusal.TheVariants.{TextWrong}
use Rattle.token.proofs.PaddedLists.{sets_append}
use Rattle.queryitem.specs.Pieces.{answered}
use Rattle.queryitem.proofs.Chains.{FailsAs, answered_fails, fails_wrong}
use Rattle.querypart.specs.declared.alternatives.Listed.{Listed}
use Rattle.querypart.specs.Spots.{all_spots}
use Rattle.querypart.specs.Inner.{first_of, Sort, few, listed, OneIn, all_words, all_few, slot_of}
use Rattle.querypart.proofs.Spots.{first_both, spots_more, write_more}

-- ONE MORE

every_more : {A : Type 0} (test : A → Bool) (l : List A) (a : A) → every test (l ++ (a ∷ [])) ≡ every test l && test a
every_more test [] a = go (test a)
  where
    go : (t : Bool) → t && true ≡ t
    go true = refl
    go false = refl
every_more test (b ∷ l) a = go (test b) (every_more test l a)
  where
    go : (t : Bool) → every test (l ++ (a ∷ [])) ≡ every test l && test a → t && every test (l ++ (a ∷ [])) ≡ (t && every test l) && test a
    go true e = e
    go false e = refl

pub few_more : (k : Sort) (l : List k.Says) (a : k.Says) → all_few k (l ++ (a ∷ [])) ≡ all_few k l && few (k.alternatives a)
few_more k l a = every_more (λ a. few (k.alternatives a)) l a

pub words_more : (k : Sort) (l : List k.Says) (a : k.Says) → all_words k (l ++ (a ∷ [])) ≡ all_words k l ++ k.words a
words_more k [] a = append-nil (k.words a)
words_more k (b ∷ l) a = ap (λ w. k.words b ++ w) (words_more k l a) ∙ sym (append_assoc (k.words b) (all_words k l) (k.words a))

pub slot_row : (n most row from : ℕ) → n < most → slot_of n most row from ≡ row
slot_row n most row from h = rw (lt-ltb n most h)

-- WHAT WAS FOUND, OR NOT

module _ (k : Sort) (s : List ℕ) (i slot : ℕ) (r : Answer Listed Refusal) (o p : List ℕ) (v : OneIn k s i slot r o p) where
  pub record Found (l : Listed) : Type 0 where
    pub says : k.Says
    pub is : locate k.format s i ≡ found says l.next
    pub count : l.count ≡ length (k.alternatives says)
    pub first : l.reversed ≡ first_of (k.spots i says)

  found_go : (l : Listed) (m : Located k.Says) → locate k.format s i ≡ m → answered (listed k i) (length s) m ≡ Ok l → Found l
  found_go l (found a next) e q =
      let z : listed k i a next ≡ l = cc in
      record { says = a; is = e ∙ ap (λ l. found a l.next) z; count = sym (ap (λ l. l.count) z); first = sym (ap (λ l. l.reversed) z) }
  found_go l (wrong_at j) e q = absurd (cc q)
  found_go l short_here e q = absurd (cc q)

  pub one_found : (l : Listed) → r ≡ Ok l → Found l
  one_found l q = found_go l (locate k.format s i) refl (sym v.is ∙ q)

  pub one_failed : (e : Refusal) → r ≡ Err e → FailsAs (length s) (locate k.format s i) e
  one_failed e q = answered_fails (listed k i) (length s) (locate k.format s i) e (sym v.is ∙ q)

-- THE LOOP

-- these were read up to i, n of them, and put up to the offset row while they fit
pub record Walked (k : Sort) (Fits : List k.Says → Type 0) (s : List ℕ) (at from n i : ℕ) (first : Optional ℕ) (row : ℕ) (done : List k.Says) (o p : List ℕ) : Type 0 where
  pub walk : Walk k.format s at i done
  pub count : n ≡ length done
  pub below : n ≤ i
  pub offset : i ≡ at + length (write_all k.format.write done)
  pub noticed : first ≡ first_of (all_spots k.format k.spots at done)
  pub size : length p ≡ length o
  pub held : Fits done → all_few k done ≡ true → (p ≡ sets o from (all_words k done)) × (row ≡ from + length (all_words k done))

module _ (k : Sort) (g : Open 1 k.format) (Fits : List k.Says → Type 0) (s : List ℕ) (at from : ℕ) where
  abbrev f : Format k.Says
  f = k.format

  module _ (n i : ℕ) (first : Optional ℕ) (row : ℕ) (d : List k.Says) (o p : List ℕ) (v : Walked k Fits s at from n i first row d o p) where
    module _ (slot : ℕ) (r : Answer Listed Refusal) (q : List ℕ) (w : OneIn k s i slot r p q) where
      module _ (m : Listed) (z : r ≡ Ok m) where
        abbrev y : Found k s i slot r p q w m
        y = one_found k s i slot r p q w m z

        there : Got f s i y.says m.next
        there = open_got 1 f g s at i d v.walk y.says m.next y.is

        pub walked-grow : (i < m.next) × (m.next ≤ length s)
        walked-grow = let t = there in (omega (arith, t.size, g.solid y.says t.valid), t.room)

        -- what fits with one more fitted without it, and the one more was put next
        pub walked_on : ((a : k.Says) → Fits (d ++ (a ∷ [])) → Fits d × (row ≡ from + length (all_words k d) → slot ≡ row)) → (now : Optional ℕ) → now ≡ option_or first m.reversed
            → (next : ℕ) → ((a : k.Says) → m.count ≡ length (k.alternatives a) → few (k.alternatives a) ≡ true → next ≡ slot + length (k.words a))
            → Walked k Fits s at from (n + 1) m.next now next (d ++ (y.says ∷ [])) o q
        walked_on here now e next after =
            let a = y.says in
            let c = v.count in
            let t = there in
            record {
              walk = open_on 1 f g s at i d v.walk a m.next y.is;
              count = omega (arith, length-append d (a ∷ []));
              below = let b = v.below in omega (arith, walked-grow.0);
              offset = let b = v.offset in omega (arith, t.size, write_more f d a);
              noticed =
                  e ∙ (λ j. option_or (v.noticed j) ((y.first ∙ ap (λ i. first_of (k.spots i a)) v.offset) j))
                  ∙ sym (first_both (all_spots f k.spots at d) (k.spots (at + length (write_all f.write d)) a))
                  ∙ ap first_of (sym (spots_more f k.spots at d a));
              size = w.size ∙ v.size;
              held = λ x b.
                  let b = (and-eq-true_iff (all_few k d) (few (k.alternatives a))).0 (sym (few_more k d a) ∙ b) in
                  let u = here a x in
                  let h = v.held u.0 b.0 in
                  let j : slot ≡ from + length (all_words k d) = u.1 h.1 ∙ h.1 in
                  let l = after a y.count b.1 in (
                    w.holds a m.next y.is b.1
                        ∙ (λ i. sets (h.0 i) (j i) (k.words a)) ∙ sets_append (all_words k d) (k.words a) o from ∙ ap (sets o from) (sym (words_more k d a)),
                    omega (arith, length-append (all_words k d) (k.words a), ap length (words_more k d a)),
                  );
            }

      -- the ways out
      module _ (e : Refusal) (z : r ≡ Err e) where
        pub walked_none : e ≡ TextWrong i → locate f s i ≡ wrong_at i
        walked_none = fails_wrong (length s) i (locate f s i) e (one_failed k s i slot r p q w e z)

        pub walked_stop : e ≡ TextWrong i → locate (many f) s at ≡ found d i
        walked_stop x = open_stop 1 f g s at i d v.walk (walked_none x)

        pub walked_bad : i < length s → (e ≡ TextWrong i → ⊥) → FailsAs (length s) (locate (many f) s at) e
        walked_bad h n = go (locate f s i) refl (one_failed k s i slot r p q w e z)
          where
            go : (l : Located k.Says) → locate f s i ≡ l → FailsAs (length s) l e → FailsAs (length s) (locate (many f) s at) e
            go (found a next) x y = absurd y
            go (wrong_at j) x y = rw (open_bad 1 f g s at i d v.walk j x (λ u. n (y ∙ ap TextWrong u))) y
            go short_here x y = rw (open_cut 1 f g s at i d v.walk h x) y

    pub walked_end : length s ≤ i → locate (many f) s at ≡ found d i
    walked_end h = open_end 1 f g s at i d v.walk h
