-- Laws of a set of entries in bits, and of writing those that it has.
use Prim.Native.Nat.{ℕ, zero, suc, ◌+◌, ◌-◌, ◌/◌, ◌%◌, ◌^◌, ◌≤◌, ◌<◌}
use mathlib.Core.Path.{◌≡◌, refl, sym, ap, subst, ◌∙◌}
use mathlib.Core.List.{List, [], ◌∷◌, ◌++◌, append_assoc}
use mathlib.Core.Bool.{Bool, true, false, true≢false}
use native.Mathlib.Nat.{zero-add, add-zero, pow-suc}
use native.Mathlib.Numerals.{add-one}
use native.Mathlib.Omega.{arith}
use borrow.Author.Tests.{eqb-true, eqb-false}
use lib.Dec.{eqb}
use lib.ListN.{length, get_or, take, drop, set, replicate, length-set, length-take, get_or-replicate, drop_of_length-le}
use lib.Pow.{pow_pos}
use lib.Seq.{drop-cons, set_at, get_or-take, get_or-set_same, get_or-set_other, take-suc, length-take-le}
use Rattle.format.specs.Format.{All, keep}
use Rattle.narrowing.specs.Narrowing.{entries_from, up_to, rising_over, rising, listed}
use Rattle.format.proofs.Keeping.{keep_agree, keep_every}
use Rattle.narrowing.proofs.Rising.{up_to_rising, rising_on, rising_low, rising_high, rising_end, rising_within, listed_short, listed_is}
use Rattle.narrowing.proofs.Entries.{up_to_kept, up_to_left, Passed, passed_start, passed_in, passed_out, passed_room}
use Rattle.format.proofs.Lists.{all_weaker, zeros_at}
use Rattle.list.specs.Bits.{byte_of, bit_of, EndsBefore, Holds, Lists}
use Rattle.list.proofs.Bytes.{left_here, added_here, added_other}

-- AN ENTRY that the set does not have is added, and changes no other
abbrev added : List ℕ → ℕ → List ℕ
added bits e = set bits (e / 8) (byte_of bits (e / 8) + 2 ^ (e % 8))

module _ (bits : List ℕ) (e : ℕ) (room : e / 8 < length bits) where
  same : byte_of (added bits e) (e / 8) ≡ byte_of bits (e / 8) + 2 ^ (e % 8)
  same = get_or-set_same bits (e / 8) (byte_of bits (e / 8) + 2 ^ (e % 8)) 0 room

  other : (i : ℕ) → (i ≡ e / 8 → ⊥) → byte_of (added bits e) i ≡ byte_of bits i
  other i z = get_or-set_other bits (e / 8) i (byte_of bits (e / 8) + 2 ^ (e % 8)) 0 z

  module _ (free : bit_of bits e ≡ false) where
    pub added_in : bit_of (added bits e) e ≡ true
    added_in = rw same (added_here (byte_of bits (e / 8)) (e % 8) free)

    pub added_still : (i : ℕ) → (i ≡ e → ⊥) → bit_of (added bits e) i ≡ bit_of bits i
    added_still i z = go (eqb (i / 8) (e / 8)) refl
      where
        go : (t : Bool) → eqb (i / 8) (e / 8) ≡ t → bit_of (added bits e) i ≡ bit_of bits i
        go true q =
            let s = eqb-true (i / 8) (e / 8) q in
            rw (s, same) (ap (λ y. eqb y 1) (added_other (byte_of bits (e / 8)) (e % 8) free (i % 8) (λ m. z (omega (arith, s, m)))))
        go false q = ap (λ y. eqb (y / 2 ^ (i % 8) % 2) 1) (other (i / 8) (eqb-false (i / 8) (e / 8) q))

-- A SET WITHOUT ENTRIES from e on, and with e
module _ (bits : List ℕ) (e : ℕ) (n : EndsBefore e bits) where
  pub left_out : bit_of bits e ≡ false
  left_out = left_here (byte_of bits (e / 8)) (e % 8) n.byte

  -- the byte of the next entry
  next_byte : (after : List ℕ) → byte_of after (e / 8) < 2 ^ (e % 8 + 1) → ((i : ℕ) → e / 8 < i → byte_of after i ≡ 0) → EndsBefore (e + 1) after
  next_byte after h z = go (eqb ((e + 1) / 8) (e / 8)) refl
    where
      go : (t : Bool) → eqb ((e + 1) / 8) (e / 8) ≡ t → EndsBefore (e + 1) after
      go true q =
          let s = eqb-true ((e + 1) / 8) (e / 8) q in
          let m : e % 8 + 1 ≡ (e + 1) % 8 = omega (arith, s) in
          record { byte = rw (s, ← m) h; later = λ i l. z i (omega (arith, s)) }
      go false q =
          let s = eqb-false ((e + 1) / 8) (e / 8) q in
          let d : e / 8 < (e + 1) / 8 = omega (arith, s) in
          record { byte = omega (arith, z ((e + 1) / 8) d, pow_pos ((e + 1) % 8)); later = λ i l. z i (omega (arith, d)) }

  pub ends_left : EndsBefore (e + 1) bits
  ends_left = next_byte bits (omega (arith, n.byte, pow-suc 2 (e % 8), ap (λ i. 2 ^ i) (add-one (e % 8)))) n.later

  ends_added : e / 8 < length bits → EndsBefore (e + 1) (added bits e)
  ends_added room =
      next_byte (added bits e) (omega (arith, same bits e room, n.byte, pow-suc 2 (e % 8), ap (λ i. 2 ^ i) (add-one (e % 8))))
      (λ i l. other bits e room i (λ q. omega arith) ∙ n.later i l)

-- a set of 8,192 bytes has a bit for each line
pub set_room : {lines m : ℕ} → lines ≤ 65535 → m ≡ 8192 → lines / 8 < m
set_room h e = omega arith

-- FROM a ON THERE IS NONE
pub ends_later : (bits : List ℕ) (a m : ℕ) → EndsBefore a bits → EndsBefore (a + m) bits
ends_later bits a zero n = rw (add-zero a) n
ends_later bits a (suc m) n =
    let s : a + m + 1 ≡ a + suc m = omega arith in
    rw (← s) (ends_left bits (a + m) (ends_later bits a m n))

none_later : (bits : List ℕ) (last m : ℕ) → EndsBefore (last + 1) bits → keep (bit_of bits) (up_to (last + m)) ≡ keep (bit_of bits) (up_to last)
none_later bits last zero n = rw (add-zero last)
none_later bits last (suc m) n =
    let s : last + m + 1 ≡ last + suc m = omega arith in
    let t : last + 1 + m ≡ last + m + 1 = omega arith in
    rw (← s) (up_to_left (bit_of bits) (last + m) (left_out bits (last + m + 1) (rw (← t) (ends_later bits (last + 1) m n))) ∙ none_later bits last m n)

-- A LIST IS TESTED AND ADDED: so far its first i entries, which rise up to `last`
pub record Adding (list : List ℕ) (n count : ℕ) (before bits : List ℕ) (last i : ℕ) : Type 0 where
  pub room : n ≤ length list
  pub most : i ≤ n
  pub same : listed (rising count) list n ≡ rising_over last count (drop i (take n list))
  pub within : last ≤ count
  pub space : count / 8 < length bits
  pub long : length bits ≡ length before
  pub ends : EndsBefore (last + 1) bits
  pub has : keep (bit_of bits) (up_to last) ≡ take i list

-- it is refused
refused : (count : ℕ) (entries before bits : List ℕ) → length bits ≡ length before → Lists false count entries before bits
refused count entries before bits l = record { long = l; has = λ z. absurd (true≢false (sym z)) }

pub adding_short : (list : List ℕ) (n count : ℕ) (bits : List ℕ) → length list < n → record { rises : false ≡ listed (rising count) list n; lists : Lists false count (take n list) bits bits }
adding_short list n count bits h = record { rises = sym (listed_short (rising count) list n h); lists = refused count (take n list) bits bits refl }

pub adding_start : (list : List ℕ) (n count : ℕ) (bits : List ℕ) → n ≤ length list → count / 8 < length bits → EndsBefore 1 bits → Adding list n count bits bits 0 0
unfolding entries_from keep
adding_start list n count bits h r e = record {
  room = h;
  most = omega arith;
  same = listed_is (rising count) list n h;
  within = omega arith;
  space = r;
  long = refl;
  ends = rw (zero-add 1) e;
  has = refl;
}

module _ {list : List ℕ} {n count : ℕ} {before bits : List ℕ} {last i : ℕ} (c : Adding list n count before bits last i) where
  pub adding_end : n ≤ i → record { rises : true ≡ listed (rising count) list n; lists : Lists true count (take n list) before bits }
  adding_end h =
      let s : i ≡ n = omega (arith, c.most) in
      let l : length (take n list) ≤ i = omega (arith, length-take n list) in
      let m : last + (count - last) ≡ count = omega (arith, c.within) in
      record {
        rises = sym (c.same ∙ rw (drop_of_length-le (take n list) l) (rising_end last count));
        lists = record { long = c.long; has = λ z. rw (← m) (none_later bits last (count - last) c.ends ∙ c.has ∙ rw s) };
      }

  module _ (h : i < n) where
    abbrev entry : ℕ
    entry = get_or list i 0

    turn : listed (rising count) list n ≡ rising_over last count (entry ∷ drop (i + 1) (take n list))
    turn =
        let m : i < length (take n list) = omega (arith, length-take-le n list c.room) in
        c.same ∙ rw (add-one, drop-cons (take n list) i 0 m, get_or-take n list i 0 h)

    pub adding_low : entry ≤ last → record { rises : false ≡ listed (rising count) list n; lists : Lists false count (take n list) before bits }
    adding_low l = record { rises = sym (turn ∙ rising_low last count entry (drop (i + 1) (take n list)) l); lists = refused count (take n list) before bits c.long }

    pub adding_high : count < entry → record { rises : false ≡ listed (rising count) list n; lists : Lists false count (take n list) before bits }
    adding_high l = record { rises = sym (turn ∙ rising_high last count entry (drop (i + 1) (take n list)) l); lists = refused count (take n list) before bits c.long }

    module _ (l : last < entry) (m : entry ≤ count) where
      adding-ends : EndsBefore entry bits
      adding-ends =
          let s : last + 1 + (entry - (last + 1)) ≡ entry = omega arith in
          rw s at (ends_later bits (last + 1) (entry - (last + 1)) c.ends)

      pub adding-free : bit_of bits entry ≡ false
      adding-free = left_out bits entry adding-ends

      pub adding-space : entry / 8 < length bits
      adding-space = omega (arith, c.space)

      abbrev more : List ℕ
      more = set bits (entry / 8) (byte_of bits (entry / 8) + 2 ^ (entry % 8))

      -- those before it stay, and it comes last
      lists : keep (bit_of more) (up_to entry) ≡ take (i + 1) list
      lists =
          let p = entry - 1 in
          let s : p + 1 ≡ entry = omega arith in
          let m : last + (p - last) ≡ p = omega arith in
          let still = keep_agree (bit_of more) (bit_of bits) (up_to p)
          (all_weaker (λ e. (0 < e) × (e ≤ p)) (λ e. bit_of more e ≡ bit_of bits e) (λ e l. added_still bits entry adding-space adding-free e (λ q. omega (arith, l.1, s))) (up_to p) (rising_within p (up_to p) (up_to_rising p))) in
          let before = still ∙ ap (λ k. keep (bit_of bits) (up_to k)) (sym m) ∙ none_later bits last (p - last) c.ends ∙ c.has in
          let here : bit_of more (p + 1) ≡ true = rw s (added_in bits entry adding-space adding-free) in
          ap (λ k. keep (bit_of more) (up_to k)) (sym s) ∙ up_to_kept (bit_of more) p here ∙ rw (before, s, add-one i, take-suc list i 0 (omega (arith, c.room)))

      pub adding-more : Adding list n count before more entry (i + 1)
      adding-more =
          let s = length-set bits (entry / 8) (byte_of bits (entry / 8) + 2 ^ (entry % 8)) in
          record {
            room = c.room;
            most = omega arith;
            same = turn ∙ rising_on last count entry (drop (i + 1) (take n list)) l m;
            within = m;
            space = omega (arith, c.space, s);
            long = s ∙ c.long;
            ends = ends_added bits entry adding-ends adding-space;
            has = lists;
          }

-- ALL LINES ARE PASSED: of 1 to n the set has those that pass
pub holds_none : (test : ℕ → Bool) (bits : List ℕ) → EndsBefore 1 bits → Holds test 0 bits
holds_none test bits e = record { has = λ e l h. absurd (omega arith); ends = rw (zero-add 1) e }

pub none_in : (bytes : ℕ) → EndsBefore 1 (replicate bytes 0)
none_in bytes = record { byte = omega (arith, zeros_at bytes (1 / 8), pow_pos (1 % 8)); later = λ i l. zeros_at bytes i }

module _ {test : ℕ → Bool} {n : ℕ} {bits : List ℕ} (h : Holds test n bits) where
  below : (after : List ℕ) → ((i : ℕ) → i < n + 1 → bit_of after i ≡ bit_of bits i) → bit_of after (n + 1) ≡ test (n + 1) → (e : ℕ) → 0 < e → e ≤ n + 1 → bit_of after e ≡ test e
  below after still here e l m = go (eqb e (n + 1)) refl
    where
      go : (t : Bool) → eqb e (n + 1) ≡ t → bit_of after e ≡ test e
      go true q = subst (λ i. bit_of after i ≡ test i) (sym (eqb-true e (n + 1) q)) here
      go false q =
          let z = eqb-false e (n + 1) q in
          still e (omega (arith, z)) ∙ h.has e l (omega (arith, z))

  pub holds_out : test (n + 1) ≡ false → Holds test (n + 1) bits
  holds_out t = record { has = below bits (λ i l. refl) (left_out bits (n + 1) h.ends ∙ sym t); ends = ends_left bits (n + 1) h.ends }

  pub holds_in : (n + 1) / 8 < length bits → test (n + 1) ≡ true → Holds test (n + 1) (set bits ((n + 1) / 8) (byte_of bits ((n + 1) / 8) + 2 ^ ((n + 1) % 8)))
  holds_in room t = let free = left_out bits (n + 1) h.ends in record {
    has = below (added bits (n + 1)) (λ i l. added_still bits (n + 1) room free i (λ q. omega arith)) (added_in bits (n + 1) room free ∙ sym t);
    ends = ends_added bits (n + 1) h.ends room;
  }

  pub holds_keeps : keep (bit_of bits) (up_to n) ≡ keep test (up_to n)
  holds_keeps =
      keep_agree (bit_of bits) test (up_to n)
      (all_weaker (λ e. (0 < e) × (e ≤ n)) (λ e. bit_of bits e ≡ test e) (λ e l. h.has e l.0 l.1) (up_to n) (rising_within n (up_to n) (up_to_rising n)))

-- THE LOOP that writes them: those of the first e entries that pass, k of them, stand in front
pub record Writing (list₀ : List ℕ) (test : ℕ → Bool) (n : ℕ) (list : List ℕ) (k e : ℕ) : Type 0 where
  pub most : e ≤ n
  pub counted : Passed test k e
  pub long : length list ≡ length list₀
  pub memory : list ≡ keep test (up_to e) ++ drop k list₀

pub writing_start : (list : List ℕ) (test : ℕ → Bool) (n : ℕ) → Writing list test n list 0 0
unfolding entries_from keep
writing_start list test n = record { most = omega arith; counted = passed_start test; long = refl; memory = refl }

module _ {list₀ : List ℕ} {test : ℕ → Bool} {n : ℕ} {list : List ℕ} {k e : ℕ} (c : Writing list₀ test n list k e) where
  module _ (h : e < n) (room : length (keep test (up_to n)) ≤ length list₀) (t : test (e + 1) ≡ true) where
    space : k < length list₀
    space = omega (arith, room, passed_room c.counted n h t)

    pub writing_room : k < length list
    writing_room = omega (arith, space, c.long)

    pub writing_in : Writing list₀ test n (set list k (e + 1)) (k + 1) (e + 1)
    writing_in = record {
      most = omega arith;
      counted = passed_in c.counted t;
      long = length-set list k (e + 1) ∙ c.long;
      memory = ap (λ l. set l k (e + 1)) c.memory
          ∙ rw (add-one k, drop-cons list₀ k 0 space, set_at (keep test (up_to e)) (get_or list₀ k 0) (drop (suc k) list₀) (e + 1) k (sym c.counted.is), up_to_kept test e t)
          (sym (append_assoc (keep test (up_to e)) ((e + 1) ∷ []) (drop (suc k) list₀)));
    }

  pub writing_out : e < n → test (e + 1) ≡ false → Writing list₀ test n list k (e + 1)
  writing_out h t = record {
    most = omega arith;
    counted = passed_out c.counted t;
    long = c.long;
    memory = c.memory ∙ ap (λ l. l ++ drop k list₀) (sym (up_to_left test e t));
  }

-- EVERY ENTRY: bytes of eight bits set
all_bits : (k : ℕ) → k < 8 → eqb (255 / 2 ^ k % 2) 1 ≡ true
all_bits zero h = refl
all_bits (suc zero) h = refl
all_bits (suc (suc zero)) h = refl
all_bits (suc (suc (suc zero))) h = refl
all_bits (suc (suc (suc (suc zero)))) h = refl
all_bits (suc (suc (suc (suc (suc zero))))) h = refl
all_bits (suc (suc (suc (suc (suc (suc zero)))))) h = refl
all_bits (suc (suc (suc (suc (suc (suc (suc zero))))))) h = refl
all_bits (suc (suc (suc (suc (suc (suc (suc (suc k)))))))) h = absurd (omega arith)

pub all_listed : (bytes n : ℕ) → n / 8 < bytes → keep (bit_of (replicate bytes 255)) (up_to n) ≡ up_to n
all_listed bytes n h =
    keep_agree (bit_of (replicate bytes 255)) (λ e. true) (up_to n)
    (all_weaker (λ e. (0 < e) × (e ≤ n)) (λ e. bit_of (replicate bytes 255) e ≡ true)
    (λ e l. rw (get_or-replicate {A = ℕ} bytes (e / 8) 255 0 (omega (arith, l.1))) (all_bits (e % 8) (omega arith))) (up_to n) (rising_within n (up_to n) (up_to_rising n)))
    ∙ keep_every (up_to n)

-- A SET WITH A BIT for each entry of a list
pub inside : (count : ℕ) (k : List ℕ) → All (λ e. (0 < e) × (e ≤ count)) k → {m : ℕ} → count / 8 < m → All (λ e. e / 8 < m) k
inside count k a {m} h = all_weaker (λ e. (0 < e) × (e ≤ count)) (λ e. e / 8 < m) (λ e w. omega (arith, w.1, h)) k a
