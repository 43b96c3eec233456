-- A whole text read from its start: optional parts, what follows them, and the end.
use Prim.Native.Nat.{ℕ, ◌+◌, ◌-◌, ◌≤◌, ◌<◌}
use mathlib.Core.List.{List, [], ◌∷◌}
use mathlib.Core.Path.{◌≡◌, refl, sym, ap, ◌∙◌}
use mathlib.Core.Bool.{Bool, true, false}
use mathlib.Core.Option.{Option, none, some}
use lib.Dec.{ltb, eqb}
use lib.ListN.{length, drop, length-drop, length-append, drop_of_length-le}
use lib.Seq.{drop-cons}
use native.Mathlib.Omega.{arith}
use borrow.Author.Tests.{eq-eqb, ne_eqb, lt-ltb, le-ltb, ltb-true, ltb-false}
use Rattle.format.specs.Format.{Answer, value, other, wrong, short, Format, choose, first, second, sequence, optional, maybe, end_read, many, Absent}
use Rattle.format.specs.Places.{Outcome, fine, refused, ends_short, outcome, reading}
use Rattle.format.specs.Located.{Located, found, wrong_at, short_here, located, locate, and_then, on_found, ended}
use Rattle.format.proofs.Lawful.{Lawful, Says}
use Rattle.format.proofs.Begun.{sequence_begun, absent_other, absent_reads}
use Rattle.format.proofs.At.{got, sequence_at_got, Strays, here, later, firm_strays}
use Rattle.format.proofs.Open.{Open, nonempty}
use Rattle.format.proofs.Loop.{many_on, many_done, many_bad, many_cut, many_end}

unfoldable pub on_fine : {A B : Type 0} → (A → B) → Outcome A → Outcome B
on_fine to (fine a) = fine (to a)
on_fine to (refused p) = refused p
on_fine to ends_short = ends_short

pub ended_on : {A B : Type 0} (w size : ℕ) (to : A → B) (l : Located A) → ended w size (on_found to l) ≡ on_fine to (ended w size l)
unfolding on_fine
ended_on w size to (found a i) = go (eqb i size) (ltb size (i + w))
  where
    go : (p q : Bool) → choose p (fine (to a)) (choose q ends_short (refused i)) ≡ on_fine to (choose p (fine a) (choose q ends_short (refused i)))
    go true q = refl
    go false true = refl
    go false false = refl
ended_on w size to (wrong_at p) = refl
ended_on w size to short_here = refl

-- bytes that are left after a value
left_go : {A : Type 0} (w : ℕ) (text : List ℕ) (v : A) (rest : List ℕ) → 1 ≤ length rest → length rest ≤ length text → (t : Bool) → ltb (length rest) w ≡ t
    → outcome text (first {A = A × Unit {0}} (second (λ u. (v, u)) rest (choose t short other)) λ p left. value p.0 left)
    ≡ ended w (length text) (found v (length text - length rest))
left_go w text v rest k h true e =
    let i = length text - length rest in
    rw (ne_eqb i (length text) (λ z. omega arith), lt-ltb (length text) (i + w) (omega (arith, ltb-true (length rest) w e)))
left_go w text v rest k h false e =
    let i = length text - length rest in
    rw (ne_eqb i (length text) (λ z. omega arith), le-ltb (length text) (i + w) (omega (arith, ltb-false (length rest) w e)))

end_go : {A : Type 0} (w : ℕ) (text : List ℕ) (v : A) (rest : List ℕ) → length rest ≤ length text
    → outcome text (first {A = A × Unit {0}} (second (λ u. (v, u)) rest (end_read w rest)) λ p left. value p.0 left)
    ≡ ended w (length text) (found v (length text - length rest))
end_go w text v [] h = rw (eq-eqb (length text - 0) (length text) (omega arith))
end_go w text v (b ∷ rest) h = left_go w text v (b ∷ rest) (omega arith) h (ltb (length (b ∷ rest)) w) refl

reading_go : {A : Type 0} (w : ℕ) (f : Format A) (text : List ℕ) (r : Answer A) → Says f text r
    → outcome text (first {A = A × Unit {0}} (first r λ a rest. second (λ u. (a, u)) rest (end_read w rest)) λ p left. value p.0 left)
    ≡ ended w (length text) (located (length text) 0 r)
reading_go w f text (value v rest) s = end_go w text v rest (omega (arith, ap length s.0, length-append (f.write v) rest))
reading_go w f text other s = refl
reading_go w f text (wrong rest) s = refl
reading_go w f text short s = refl

-- reading a whole text is reading at its start, and then its end
pub reading_at : {A : Type 0} (w : ℕ) (f : Format A) → Lawful w f → (text : List ℕ) → reading w f text ≡ ended w (length text) (locate f text 0)
unfolding locate
reading_at w f l text = reading_go w f text (f.read text) (l.says text)

-- An optional part: there, not there, wrong further on, or cut.
module _ {A : Type 0} (f : Format A) (s : List ℕ) (at : ℕ) where
  abbrev opt : Answer A → Answer (Option A)
  opt r = maybe none (drop at s) r λ a rest. value (some a) rest

  there_go : (a : A) (next : ℕ) (r : Answer A) → located (length s) at r ≡ found a next → located (length s) at (opt r) ≡ found (some a) next
  there_go a next (value v rest) e = cc
  there_go a next other e = absurd (let z : ◌≡◌ {A = ℕ} 0 1 = cc in omega arith)
  there_go a next (wrong rest) e = absurd (let z : ◌≡◌ {A = ℕ} 0 1 = cc in omega arith)
  there_go a next short e = absurd (let z : ◌≡◌ {A = ℕ} 0 1 = cc in omega arith)

  pub optional_there : (a : A) (next : ℕ) → locate f s at ≡ found a next → locate (optional f) s at ≡ found (some a) next
  unfolding locate
  optional_there a next e = there_go a next (f.read (drop at s)) e

  pub optional_absent : at ≤ length s → Absent (drop at s) (f.read (drop at s)) → locate (optional f) s at ≡ found none at
  unfolding locate
  optional_absent h p =
      ap (located (length s) at) (absent_reads none (drop at s) (f.read (drop at s)) (λ a rest. value (some a) rest) p) ∙ ap (found none) (omega (arith, length-drop at s))

  pub optional_over : length s ≡ at → f.read [] ≡ short → locate (optional f) s at ≡ found none at
  optional_over e o =
      let k : length s ≤ at = omega arith in
      let z : drop at s ≡ [] = drop_of_length-le s k in
      optional_absent (omega arith) (rw (z, o) tt)

  pub optional_none : at ≤ length s → f.read (drop at s) ≡ other → locate (optional f) s at ≡ found none at
  optional_none h e = optional_absent h (absent_other (drop at s) e)

  pub optional_bad : (rest : List ℕ) → f.read (drop at s) ≡ wrong rest → locate (optional f) s at ≡ wrong_at (length s - length rest)
  unfolding locate
  optional_bad rest e = ap (λ r. located (length s) at (opt r)) e

  pub optional_cut : at < length s → f.read (drop at s) ≡ short → locate (optional f) s at ≡ short_here
  unfolding locate
  optional_cut h e =
      ap (λ r. located (length s) at (opt r)) e
      ∙ ap (λ t. located (length s) at (maybe {A = A} none t short λ a rest. value (some a) rest)) (drop-cons s at 0 h)

  open_go : at < length s → (r : Answer A) → (r ≡ other → ⊥) → located (length s) at (opt r) ≡ on_found some (located (length s) at r)
  open_go h (value a rest) n = refl
  open_go h other n = absurd (n refl)
  open_go h (wrong rest) n = refl
  open_go h short n = ap (λ t. located (length s) at (maybe {A = A} none t short λ a rest. value (some a) rest)) (drop-cons s at 0 h)

  -- where it has begun
  pub optional_open : at < length s → (f.read (drop at s) ≡ other → ⊥) → locate (optional f) s at ≡ on_found some (locate f s at)
  unfolding locate
  optional_open h n = open_go h (f.read (drop at s)) n

-- An optional sequence: it is there where its first part is, and not where that is wrong at once.
module _ {A B : Type 0} (f : Format A) (g : A → Format B) (s : List ℕ) (at : ℕ) where
  abbrev then : A → List ℕ → Answer (A × B)
  then a rest = second (λ b. (a, b)) rest ((g a).read rest)

  pub optional_begun : (a : A) (rest : List ℕ) → f.read (drop at s) ≡ value a rest → at < length s
      → locate (optional (sequence f g)) s at ≡ on_found some (locate (sequence f g) s at)
  optional_begun a rest e h = optional_open (sequence f g) s at h (sequence_begun f g (drop at s) a rest e)

  pub optional_other : at ≤ length s → f.read (drop at s) ≡ other → locate (optional (sequence f g)) s at ≡ found none at
  optional_other h e = optional_none (sequence f g) s at h (ap (λ r. first r then) e)

  pub optional_short : at < length s → f.read (drop at s) ≡ short → locate (optional (sequence f g)) s at ≡ short_here
  optional_short h e = optional_cut (sequence f g) s at h (ap (λ r. first r then) e)

-- An empty text.
pub optional_empty : {A B : Type 0} (f : Format A) (g : A → Format B) (s : List ℕ) → [] ≡ s → f.read [] ≡ short → locate (optional (sequence f g)) s 0 ≡ found none 0
optional_empty f g s e o = optional_over (sequence f g) s 0 (sym (ap length e)) (ap (λ r. first r λ a rest. second (λ b. (a, b)) rest ((g a).read rest)) o)

-- One or more, from what zero or more find.
abbrev pub one_or_more : {A : Type 0} → ℕ → Located (List A) → Located (A × List A)
one_or_more size (found [] i) = choose (ltb i size) (wrong_at i) short_here
one_or_more size (found (a ∷ l) i) = found (a, l) i
one_or_more size (wrong_at p) = wrong_at p
one_or_more size short_here = short_here

module _ {A : Type 0} (w : ℕ) (f : Format A) (o : Open w f) (s : List ℕ) (at : ℕ) (h : at ≤ length s) where
  abbrev goes : A → ℕ → Located (A × List A)
  goes a i = on_found (λ l. (a, l)) (locate (many f) s i)

  more_go : (a : A) (m : Located (List A)) → on_found {B = A × List A} (λ l. (a, l)) m ≡ one_or_more (length s) (on_found (λ l. a ∷ l) m)
  more_go a (found l i) = refl
  more_go a (wrong_at p) = refl
  more_go a short_here = refl

  wrong_go : (p : ℕ) → locate f s at ≡ wrong_at p → Strays f s at p → wrong_at p ≡ one_or_more (length s) (locate (many f) s at)
  wrong_go p e (here z y) =
      let k : at < length s = omega (arith, nonempty w f o (drop at s) y, length-drop at s) in
      sym (ap (one_or_more (length s)) (many_done w f o s at h (e ∙ ap wrong_at z)) ∙ rw (lt-ltb at (length s) k) (ap wrong_at (sym z)))
  wrong_go p e (later rest z k y) = sym (ap (one_or_more (length s)) (many_bad w f o s at p e (λ q. omega arith)))

  cut_go : locate f s at ≡ short_here → (t : Bool) → ltb at (length s) ≡ t → short_here ≡ one_or_more (length s) (locate (many f) s at)
  cut_go e true q = sym (ap (one_or_more (length s)) (many_cut w f o s at (ltb-true at (length s) q) e))
  cut_go e false q =
      let k : length s ≡ at = omega (arith, ltb-false at (length s) q) in
      sym (ap (one_or_more (length s)) (many_end w f o s at k) ∙ rw (le-ltb at (length s) (omega arith)))

  one_go : (x : Located A) → locate f s at ≡ x → and_then x goes ≡ one_or_more (length s) (locate (many f) s at)
  one_go (found a i) e = more_go a (locate (many f) s i) ∙ ap (one_or_more (length s)) (sym (many_on w f o s at h a i e))
  one_go (wrong_at p) e = wrong_go p e (firm_strays f o.firm s at p e)
  one_go short_here e = cut_go e (ltb at (length s)) refl

  pub one_or_more_lem : locate (sequence f λ a. many f) s at ≡ one_or_more (length s) (locate (many f) s at)
  one_or_more_lem = sequence_at_got f (λ a. many f) s at (got w f o.lawful s at h) ∙ one_go (locate f s at) refl
