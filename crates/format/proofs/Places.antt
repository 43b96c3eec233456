-- The law of places, once for every exact format.
use Prim.Native.Nat.{ℕ, suc, ◌+◌, ◌-◌, ◌*◌, ◌≤◌, ◌<◌}
use mathlib.Core.List.{List, [], ◌++◌, append_assoc, append-nil}
use mathlib.Core.Path.{◌≡◌, refl, sym, ap, ◌∙◌}
use mathlib.Core.Bool.{Bool, true, false}
use mathlib.Core.Logic.{◌↔◌}
use lib.Dec.{ltb}
use lib.ListN.{length, drop, take, length-append, take-append-drop}
use lib.Seq.{take_at, take-take, take_all, take-append_seam}
use native.Mathlib.Omega.{arith}
use native.Mathlib.Nat.{suc-mul, mul-one, mul-le-mul_right, lt_of_mul-lt-mul_right}
use borrow.Author.Tests.{ltb-true, ltb-false}
use Rattle.format.specs.Format.{Answer, value, other, wrong, short, Format, sequence, end}
use Rattle.format.specs.Places.{whole, Begins, Formed, Outcome, fine, refused, ends_short, outcome, reading, Refused, EndsShort, Means, FirstWrong, Unfinished, ByBytes}
use Rattle.format.proofs.Lawful.{Says}
use Rattle.format.proofs.Reading.{whole_inverse, whole_written, reads_formed}
use Rattle.format.proofs.Exact.{Exact, Fails}
use Rattle.format.proofs.ExactParts.{sequence_exact, mapped_exact, end_exact}
use Rattle.format.proofs.Delimited.{short_value}

wrong_value : {A : Type 0} {X : Type 0} {v : A} {r s : List ℕ} → wrong r ≡ value v s → X
wrong_value e = absurd (let z : ◌≡◌ {A = ℕ} 0 1 = cc in omega arith)

other_value : {A : Type 0} {X : Type 0} {v : A} {s : List ℕ} → other ≡ value v s → X
other_value e = absurd (let z : ◌≡◌ {A = ℕ} 0 1 = cc in omega arith)

same_value : {A : Type 0} {v u : A} {r s : List ℕ} → value v r ≡ value u s → v ≡ u
same_value e = cc

omega_length : (text x y : List ℕ) → text ≡ x ++ y → length text ≡ length x + length y
omega_length text x y e = ap length e ∙ length-append x y

whole_exact : {A : Type 0} (w : ℕ) (f : Format A) → Exact w f → Exact w (whole w f)
whole_exact w f l =
    mapped_exact w (sequence f λ a. end w) (λ p. p.0) (λ a. (a, tt)) f.Valid (sequence_exact w f (λ a. end w) l λ a ok. end_exact w l.wide) (whole_inverse w f)

-- less of a beginning is one too
pub begins_less : {A : Type 0} (f : Format A) (text : List ℕ) (j i : ℕ) → j ≤ i → Begins f (take i text) → Begins f (take j text)
begins_less f text j i k b = record {
  says = b.says;
  valid = b.valid;
  more = drop j (take i text) ++ b.more;
  is = b.is ∙ ap (λ l. l ++ b.more) (sym (take-append-drop j (take i text)) ∙ ap (λ l. l ++ drop j (take i text)) (take-take j i text k))
      ∙ append_assoc (take j text) (drop j (take i text)) b.more;
}

-- of two whole numbers of units, the less is less by a unit
apart : (w n m p q : ℕ) → p ≡ n * w → q ≡ m * w → p < q → p + w ≤ q
apart w n m p q a b k =
    let z : n < m = lt_of_mul-lt-mul_right w (omega arith) in
    let y : suc n * w ≤ m * w = mul-le-mul_right w (omega arith) in
    omega (arith, y, suc-mul n w)

-- where what is written says what it means, no text has two outcomes
module _ {A : Type 0} (w : ℕ) (f : Format A) (one : (v u : A) → f.Valid v → f.Valid u → f.write v ≡ f.write u → v ≡ u) (text : List ℕ) where
  formed_begins : (j : ℕ) (v : A) → f.Valid v → text ≡ f.write v → Begins f (take j text)
  formed_begins j v ok e = record { says = v; valid = ok; more = drop j text; is = sym e ∙ sym (take-append-drop j text) }

  below : (p q : ℕ) → Refused w f text p → Refused w f text q → p < q → ⊥
  below p q a b k = a.never (begins_less f text (p + w) q (apart w a.unit b.unit p q a.multiple b.multiple k) b.begins)

  uncut : (p : ℕ) → Refused w f text p → EndsShort w f text → ⊥
  uncut p a b =
      a.never (begins_less f text (p + w) (b.units * w) (apart w a.unit b.units p (b.units * w) a.multiple refl (omega (arith, a.inside, b.less))) b.begins)

  same_place : (p q : ℕ) → Refused w f text p → Refused w f text q → (s t : Bool) → ltb p q ≡ s → ltb q p ≡ t → p ≡ q
  same_place p q a b true t x y = absurd (below p q a b (ltb-true p q x))
  same_place p q a b false true x y = absurd (below q p b a (ltb-true q p y))
  same_place p q a b false false x y = omega (arith, ltb-false p q x, ltb-false q p y)

  pub one_outcome : (o k : Outcome A) → Means w f text o → Means w f text k → o ≡ k
  one_outcome (fine v) (fine u) a b = ap fine (one v u a.0 b.0 (sym a.1 ∙ b.1))
  one_outcome (fine v) (refused p) a b = absurd (b.never (formed_begins (p + w) v a.0 a.1))
  one_outcome (fine v) ends_short a b = absurd (b.unformed (record { says = v; valid = a.0; is = a.1 }))
  one_outcome (refused p) (fine v) a b = absurd (a.never (formed_begins (p + w) v b.0 b.1))
  one_outcome (refused p) (refused q) a b = ap refused (same_place p q a b (ltb p q) (ltb q p) refl refl)
  one_outcome (refused p) ends_short a b = absurd (uncut p a b)
  one_outcome ends_short (fine v) a b = absurd (a.unformed (record { says = v; valid = b.0; is = b.1 }))
  one_outcome ends_short (refused p) a b = absurd (uncut p b a)
  one_outcome ends_short ends_short a b = refl

module _ {A : Type 0} (w : ℕ) (f : Format A) (l : Exact w f) (ready : (v : A) → f.Valid v → f.Follow v []) where
  abbrev h : Format A
  h = whole w f

  lh : Exact w h
  lh = whole_exact w f l

  begins_f : (x : List ℕ) → Begins h x → Begins f x
  begins_f x b = record { says = b.says; valid = b.valid; more = b.more; is = sym (append-nil (f.write b.says)) ∙ b.is }

  reads : (v : A) → f.Valid v → h.read (f.write v) ≡ value v []
  reads = reads_formed w f l.lawful ready

  none : (x : List ℕ) → ((t : List ℕ) (v : A) → h.read (x ++ t) ≡ value v [] → ⊥) → Begins f x → ⊥
  none x n b = n b.more b.says (ap h.read (sym b.is) ∙ reads b.says b.valid)

  unformed : (text : List ℕ) → h.read text ≡ short → Formed f text → ⊥
  unformed text e k = short_value (sym e ∙ ap h.read k.is ∙ reads k.says k.valid)

  means_go : (text : List ℕ) (r : Answer A) → h.read text ≡ r → Says h text r → Fails w h text r → Means w f text (outcome text r)
  means_go text (value v rest) e k s = whole_written w f l.lawful text v rest k
  means_go text other e k s = record {
    inside = omega (arith, ap length s.is, length-append s.here s.tail, s.long);
    unit = 0;
    multiple = omega arith;
    begins = begins_f [] lh.some;
    never = λ b. none s.here (λ t v q. other_value (sym (s.stays t) ∙ q))
        (rw (ap (take (0 + w)) s.is ∙ take_at s.here s.tail (0 + w) (omega (arith, s.long))) at b);
  }
  means_go text (wrong rest) e k s =
      let n = length s.front in
      let p : length text - length rest ≡ n = omega (arith, ap length s.splits, length-append s.front rest) in
      let z : take n text ≡ s.front = ap (take n) s.splits ∙ take-append_seam s.front rest in
      let y : text ≡ (s.front ++ s.here) ++ s.tail = s.splits ∙ ap (λ k. s.front ++ k) s.is ∙ sym (append_assoc s.front s.here s.tail) in
      let x : take (n + w) text ≡ s.front ++ s.here =
      ap (take (n + w)) y ∙ take_at (s.front ++ s.here) s.tail (n + w) (length-append s.front s.here ∙ ap (λ k. n + k) s.long) in
      rw p
      (record {
        inside = omega (arith, ap length y, length-append (s.front ++ s.here) s.tail, length-append s.front s.here, s.long);
        unit = s.whole.0;
        multiple = s.whole.1;
        begins = rw z (begins_f s.front s.begins);
        never = λ b. none (s.front ++ s.here)
            (λ t v q. wrong_value (sym (s.stays t) ∙ ap h.read (sym (append_assoc s.front s.here t)) ∙ q)) (rw x at b);
      })
  means_go text short e k s =
      let n = length s.front in
      let m : n ≡ s.whole.0 * w = s.whole.1 in
      let z : take n text ≡ s.front = ap (take n) s.is ∙ take-append_seam s.front s.bit in
      let y = omega_length text s.front s.bit s.is in
      record {
        units = s.whole.0;
        inside = omega (arith, y, m);
        less = omega (arith, y, m, s.less);
        begins = rw (← m, z) (begins_f s.front s.begins);
        unformed = unformed text e;
      }

  -- the outcome means what it says
  pub places : (text : List ℕ) → Means w f text (reading w f text)
  places text = means_go text (h.read text) refl (lh.lawful.says text) (lh.fails text)

  same_said : (v u : A) → f.Valid v → f.Valid u → f.write v ≡ f.write u → v ≡ u
  same_said v u p q e = same_value (sym (reads v p) ∙ ap h.read e ∙ reads u q)

  -- THE LAW OF PLACES, both ways: an outcome is given exactly where it holds
  pub exactly : (text : List ℕ) (o : Outcome A) → (reading w f text ≡ o) ↔ Means w f text o
  exactly text o = (λ e. rw e at (places text), λ m. one_outcome w f same_said text (reading w f text) o (places text) m)

-- where a unit is a byte, the places in the paper's words
module _ {A : Type 0} (f : Format A) (text : List ℕ) where
  inside_go : (p : ℕ) → FirstWrong f text p → (t : Bool) → ltb p (length text) ≡ t → p + 1 ≤ length text
  inside_go p m true e = omega (arith, ltb-true p (length text) e)
  inside_go p m false e =
      let k : length text ≤ p = ltb-false p (length text) e in
      let z : take p text ≡ take (p + 1) text = take_all p text k ∙ sym (take_all (p + 1) text (omega arith)) in
      absurd (m.never (rw z at m.begins))

  pub refused_bytes : (p : ℕ) → Refused 1 f text p ↔ FirstWrong f text p
  refused_bytes p = (
    λ m. record { begins = m.begins; never = m.never },
    λ m. record { inside = inside_go p m (ltb p (length text)) refl; unit = p; multiple = sym (mul-one p); begins = m.begins; never = m.never },
  )

  pub short_bytes : EndsShort 1 f text ↔ Unfinished f text
  short_bytes = (
    λ m. let k : m.units * 1 ≡ length text = omega (arith, m.inside, m.less) in
        (rw (k, take_all (length text) text (omega arith)) at m.begins, m.unformed),
    λ m. record {
      units = length text;
      inside = omega arith;
      less = omega arith;
      begins = rw (mul-one (length text), take_all (length text) text (omega arith)) m.0;
      unformed = m.1;
    },
  )

-- and so the law
module _ {A : Type 0} (f : Format A) (l : Exact 1 f) (ready : (v : A) → f.Valid v → f.Follow v []) where
  module _ (text : List ℕ) where
    abbrev law : (o : Outcome A) → (reading 1 f text ≡ o) ↔ Means 1 f text o
    law = exactly 1 f l ready text

    wrong_exactly : (p : ℕ) → (reading 1 f text ≡ refused p) ↔ FirstWrong f text p
    wrong_exactly p = (λ e. (refused_bytes f text p).0 ((law (refused p)).0 e), λ m. (law (refused p)).1 ((refused_bytes f text p).1 m))

    short_exactly : (reading 1 f text ≡ ends_short) ↔ Unfinished f text
    short_exactly = (λ e. (short_bytes f text).0 ((law ends_short).0 e), λ m. (law ends_short).1 ((short_bytes f text).1 m))

  pub by_bytes : ByBytes f
  by_bytes = record { wrong = wrong_exactly; short = short_exactly }
