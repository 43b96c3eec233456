-- The loops over a list in any order: putting its entries into a set, none twice, and looking for one that a set has.
use Prim.Native.Nat.{ℕ, zero, suc, ◌+◌, ◌-◌, ◌/◌, ◌%◌, ◌^◌, ◌≤◌, ◌<◌}
use mathlib.Core.Path.{◌≡◌, refl, sym, ap, ◌∙◌}
use mathlib.Core.List.{List, [], ◌∷◌, ◌++◌}
use mathlib.Core.Bool.{Bool, true, false, ◌||◌, true≢false, or-true, or-false, not}
use native.Mathlib.Numerals.{add-one}
use native.Mathlib.Omega.{arith}
use borrow.Author.Tests.{eqb-true, eqb-false}
use lib.Dec.{eqb}
use lib.ListN.{length, get_or, take, drop, set, length-set, drop_of_length-le, take-append-drop}
use lib.Seq.{drop-cons, get_or-take, take-suc, take-take, length-take-le}
use Rattle.format.specs.Format.{All, choose}
use Rattle.std.specs.Prelude.{None, Some, unwrap_or}
use Rattle.narrowing.specs.Narrowing.{has, distinct, listed, first_bad, some_entry}
use Rattle.narrowing.proofs.Rising.{listed_short, listed_is, listed_valid}
use Rattle.narrowing.proofs.Distinct.{distinct_end, has_none, has_more, distinct_at, distinct_more}
use Rattle.list.specs.Bits.{byte_of, bit_of, EndsBefore, Marks, ListsApart, first_passing}
use Rattle.list.proofs.Sets.{left_out, ends_later, added_in, added_still}

-- the first n, where i of them are passed
parts : (list : List ℕ) (n i : ℕ) → n ≤ length list → i < n → take n list ≡ take i list ++ (get_or list i 0 ∷ drop (i + 1) (take n list))
parts list n i room h =
    let m : i < length (take n list) = omega (arith, length-take-le n list room) in
    sym (take-append-drop i (take n list)) ∙ rw (take-take i n list (omega arith), add-one, drop-cons (take n list) i 0 m, get_or-take n list i 0 h)

-- A LIST IS TESTED AND ADDED: so far its first i entries
pub record Marking (list : List ℕ) (n count : ℕ) (before bits : List ℕ) (i : ℕ) : Type 0 where
  pub room : n ≤ length list
  pub most : i ≤ n
  pub apart : distinct count (take i list) ≡ true
  pub long : length bits ≡ length before
  pub marks : Marks count (take i list) bits

-- it is refused
refused : (count : ℕ) (entries before bits : List ℕ) → length bits ≡ length before → ListsApart false count entries before bits
refused count entries before bits l = record { long = l; marks = λ z. absurd (true≢false (sym z)) }

pub marking_short : (list : List ℕ) (n count : ℕ) (bits : List ℕ) → length list < n → record { apart : false ≡ listed (distinct count) list n; lists : ListsApart false count (take n list) bits bits }
marking_short list n count bits h = record { apart = sym (listed_short (distinct count) list n h); lists = refused count (take n list) bits bits refl }

none_there : (bits : List ℕ) → EndsBefore 1 bits → (e : ℕ) → 0 < e → bit_of bits e ≡ false
none_there bits n e h = let s : 1 + (e - 1) ≡ e = omega arith in left_out bits e (rw s at (ends_later bits 1 (e - 1) n))

pub marking_start : (list : List ℕ) (n count : ℕ) (bits : List ℕ) → n ≤ length list → count / 8 < length bits → EndsBefore 1 bits → Marking list n count bits bits 0
marking_start list n count bits h r none = record {
  room = h;
  most = omega arith;
  apart = distinct_end count;
  long = refl;
  marks = record { room = r; is = λ e l m. none_there bits none e l ∙ sym (has_none e) };
}

module _ {list : List ℕ} {n count : ℕ} {before bits : List ℕ} {i : ℕ} (c : Marking list n count before bits i) where
  pub marking_end : n ≤ i → record { apart : true ≡ listed (distinct count) list n; lists : ListsApart true count (take n list) before bits }
  marking_end h =
      let s : i ≡ n = omega (arith, c.most) in
      record {
        apart = sym (listed_is (distinct count) list n c.room ∙ rw s at c.apart);
        lists = record { long = c.long; marks = λ z. rw s at c.marks };
      }

  module _ (h : i < n) where
    abbrev entry : ℕ
    entry = get_or list i 0

    -- what a list that is not refused has here
    Good : Type 0
    Good = (0 < entry) × (entry ≤ count) × (has entry (take i list) ≡ false)

    good : listed (distinct count) list n ≡ true → Good
    unfolding Good
    good v =
        distinct_at count entry (take i list) (drop (i + 1) (take n list))
        (ap (distinct count) (sym (parts list n i c.room h)) ∙ listed_valid (distinct count) list n v)

    not-distinct : (Good → ⊥) → record { apart : false ≡ listed (distinct count) list n; lists : ListsApart false count (take n list) before bits }
    not-distinct z = record { apart = go (listed (distinct count) list n) refl; lists = refused count (take n list) before bits c.long }
      where
        go : (t : Bool) → listed (distinct count) list n ≡ t → false ≡ t
        go true q = absurd (z (good q))
        go false q = refl

    pub marking_zero : entry ≡ 0 → record { apart : false ≡ listed (distinct count) list n; lists : ListsApart false count (take n list) before bits }
    unfolding Good
    marking_zero z = not-distinct (λ g. omega (arith, g.0))

    pub marking_high : count < entry → record { apart : false ≡ listed (distinct count) list n; lists : ListsApart false count (take n list) before bits }
    unfolding Good
    marking_high z = not-distinct (λ g. omega (arith, g.1))

    module _ (l : (entry ≡ 0 → ⊥)) (m : entry ≤ count) where
      over : 0 < entry
      over = omega (arith, l)

      pub marking-space : entry / 8 < length bits
      marking-space = omega (arith, c.marks.room)

      pub marking-twice : bit_of bits entry ≡ true → record { apart : false ≡ listed (distinct count) list n; lists : ListsApart false count (take n list) before bits }
      unfolding Good
      marking-twice t = not-distinct (λ g. true≢false (sym t ∙ c.marks.is entry over m ∙ g.2))

      module _ (free : bit_of bits entry ≡ false) where
        abbrev more : List ℕ
        more = set bits (entry / 8) (byte_of bits (entry / 8) + 2 ^ (entry % 8))

        one_more : take (i + 1) list ≡ take i list ++ (entry ∷ [])
        one_more = rw (add-one i, take-suc list i 0 (omega (arith, c.room)))

        marked : (e : ℕ) → 0 < e → e ≤ count → bit_of more e ≡ has e (take (i + 1) list)
        marked e a b = go (eqb entry e) refl ∙ sym (ap (has e) one_more ∙ has_more e (take i list) entry)
          where
            go : (t : Bool) → eqb entry e ≡ t → bit_of more e ≡ (has e (take i list) || (eqb entry e || false))
            go true q =
                let s = eqb-true entry e q in
                rw (q, ← s) (added_in bits entry marking-space free ∙ sym (or-true (has entry (take i list))))
            go false q =
                added_still bits entry marking-space free e (λ z. eqb-false entry e q (sym z)) ∙ c.marks.is e a b ∙ rw q (sym (or-false (has e (take i list))))

        pub marking-more : Marking list n count before more (i + 1)
        marking-more =
            let s = length-set bits (entry / 8) (byte_of bits (entry / 8) + 2 ^ (entry % 8)) in
            record {
              room = c.room;
              most = omega arith;
              apart = ap (distinct count) one_more ∙ distinct_more count entry (take i list) c.apart over m (sym (c.marks.is entry over m) ∙ free);
              long = s ∙ c.long;
              marks = record { room = omega (arith, s, c.marks.room); is = marked };
            }

-- A LIST IS LOOKED THROUGH for an entry that passes a test: none of its first i does
pub record Looking (test : ℕ → Bool) (list : List ℕ) (i : ℕ) : Type 0 where
  pub same : first_passing test list ≡ first_passing test (drop i list)

module _ {test : ℕ → Bool} {list : List ℕ} {i : ℕ} (c : Looking test list i) where
  pub looking_end : length list ≤ i → None ≡ first_passing test list
  unfolding first_passing
  looking_end h = sym (c.same ∙ rw (drop_of_length-le list h))

  module _ (h : i < length list) where
    turn : first_passing test list ≡ first_passing test (get_or list i 0 ∷ drop (i + 1) list)
    turn = c.same ∙ rw (add-one, drop-cons list i 0 h)

    pub looking_here : test (get_or list i 0) ≡ true → Some (get_or list i 0) ≡ first_passing test list
    unfolding first_passing
    looking_here q = sym (turn ∙ rw q)

    pub looking_more : test (get_or list i 0) ≡ false → Looking test list (i + 1)
    unfolding first_passing
    looking_more q = record { same = turn ∙ rw q }

-- the same of entries, of which 0 is none: the first that fails the opposite test
pub passing_bad : (test : ℕ → Bool) (list : List ℕ) → unwrap_or (first_passing test list) 0 ≡ first_bad (λ e. not (test e)) list
unfolding first_passing first_bad
passing_bad test [] = refl
passing_bad test (e ∷ list) = go (test e) (passing_bad test list)
  where
    go : (t : Bool) → unwrap_or (first_passing test list) 0 ≡ first_bad (λ e. not (test e)) list → unwrap_or (choose t (Some e) (first_passing test list)) 0 ≡ choose (not t) (first_bad (λ e. not (test e)) list) e
    go true h = refl
    go false h = h

pub passing_entry : (test : ℕ → Bool) (list : List ℕ) → All (λ e. 0 < e) list → first_passing test list ≡ some_entry (first_bad (λ e. not (test e)) list)
unfolding first_passing first_bad
passing_entry test [] a = refl
passing_entry test (zero ∷ list) a = absurd (omega (arith, a.0))
passing_entry test (suc e ∷ list) a = go (test (suc e)) (passing_entry test list a.1)
  where
    go : (t : Bool) → first_passing test list ≡ some_entry (first_bad (λ e. not (test e)) list)
        → choose t (Some (suc e)) (first_passing test list) ≡ some_entry (choose (not t) (first_bad (λ e. not (test e)) list) (suc e))
    go true h = refl
    go false h = h
