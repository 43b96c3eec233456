-- Laws of formats read at an offset: a function that reads part by part only cites these.
use Prim.Native.Nat.{ℕ, ◌+◌, ◌-◌, ◌≤◌, ◌<◌}
use mathlib.Core.List.{List, [], ◌++◌}
use mathlib.Core.Path.{◌≡◌, refl, sym, ap, ◌∙◌}
use mathlib.Core.Bool.{Bool, true, false}
use mathlib.Core.Logic.{◌⊎◌, inl, inr}
use lib.Dec.{ltb}
use lib.ListN.{length, drop, take, length-drop, length-append, take-append-drop, drop_of_length-le}
use lib.Seq.{drop_at, drop-drop}
use native.Mathlib.Omega.{arith}
use borrow.Author.Tests.{ltb-true, ltb-false}
use Rattle.format.specs.Format.{Answer, value, other, wrong, short, Format, first, second, sequence, mapped, either, or_else}
use Rattle.format.specs.Located.{Located, found, wrong_at, short_here, located, locate, and_then, on_found}
use Rattle.format.proofs.Lawful.{Lawful, Says}
use Rattle.format.proofs.Delimited.{Firm, Delimited, Fixed, solid}

-- a value at an offset of a text, and the text after it
pub record Got {A : Type 0} (f : Format A) (s : List ℕ) (at : ℕ) (a : A) (next : ℕ) : Type 0 where
  pub reads : f.read (drop at s) ≡ value a (drop next s)
  pub valid : f.Valid a
  pub size : next ≡ at + length (f.write a)
  pub room : next ≤ length s

found_inv : {A : Type 0} {a b : A} {i j : ℕ} → found a i ≡ found b j → (a ≡ b) × (i ≡ j)
found_inv e = (cc, cc)

wrong_found : {A : Type 0} {X : Type 0} {p i : ℕ} {a : A} → wrong_at p ≡ found a i → X
wrong_found e = absurd (let z : ◌≡◌ {A = ℕ} 0 1 = cc in omega arith)

cut_found : {A : Type 0} {X : Type 0} {i : ℕ} {a : A} → short_here ≡ found a i → X
cut_found e = absurd (let z : ◌≡◌ {A = ℕ} 0 1 = cc in omega arith)

got_value : {A : Type 0} (f : Format A) (s : List ℕ) (at : ℕ) (v : A) (rest : List ℕ) → at ≤ length s → f.read (drop at s) ≡ value v rest
    → (drop at s ≡ f.write v ++ rest) × f.Valid v → Got f s at v (length s - length rest)
got_value f s at v rest h e q =
    let n = length (f.write v) in
    let l : length (drop at s) ≡ n + length rest = ap length q.0 ∙ length-append (f.write v) rest in
    let k : length s - length rest ≡ at + n = omega (arith, l, length-drop at s) in
    let y : rest ≡ drop (length s - length rest) s = sym (drop_at (f.write v) rest n refl) ∙ ap (drop n) (sym q.0) ∙ drop-drop n at s ∙ ap (λ i. drop i s) (sym k) in
    record { reads = e ∙ ap (value v) y; valid = q.1; size = k; room = omega arith }

module _ {A : Type 0} (w : ℕ) (f : Format A) (l : Lawful w f) (s : List ℕ) (at : ℕ) (h : at ≤ length s) where
  got_go : (a : A) (next : ℕ) (r : Answer A) → f.read (drop at s) ≡ r → Says f (drop at s) r → located (length s) at r ≡ found a next → Got f s at a next
  got_go a next (value v rest) e q p =
      let x = found_inv p in
      rw (x.0, x.1) at (got_value f s at v rest h e (q.0, q.1))
  got_go a next other e q p = wrong_found p
  got_go a next (wrong rest) e q p = wrong_found p
  got_go a next short e q p = cut_found p

  pub got : (a : A) (next : ℕ) → locate f s at ≡ found a next → Got f s at a next
  unfolding locate
  got a next e = got_go a next (f.read (drop at s)) refl (l.says (drop at s)) e

module _ {A : Type 0} (w : ℕ) (f : Format A) (d : Delimited w f) (s : List ℕ) (at : ℕ) where
  delimited_go : (a : A) (next : ℕ) (t : Bool) → ltb (length s) at ≡ t → locate f s at ≡ found a next → Got f s at a next
  unfolding locate
  delimited_go a next true e p =
      let k : length s ≤ at = omega (arith, ltb-true (length s) at e) in
      let z : drop at s ≡ [] = drop_of_length-le s k in
      cut_found (sym (ap (λ r. located (length s) at r) (ap f.read z ∙ d.empty)) ∙ p)
  delimited_go a next false e p = got w f d.lawful s at (ltb-false (length s) at e) a next p

  -- the same of a delimited format, at any offset
  pub delimited_got : (a : A) (next : ℕ) → locate f s at ≡ found a next → Got f s at a next
  delimited_got a next e = delimited_go a next (ltb (length s) at) refl e

-- what is wrong at its first unit, and further on
pub data Strays {A : Type 0} (f : Format A) (s : List ℕ) (at p : ℕ) : Type 0 where
  here : p ≡ at → f.read (drop at s) ≡ other → Strays f s at p
  later : (rest : List ℕ) → p ≡ length s - length rest → at < p → f.read (drop at s) ≡ wrong rest → Strays f s at p

module _ {A : Type 0} (f : Format A) (firm : Firm f) (s : List ℕ) (at p : ℕ) where
  strays_go : (r : Answer A) → f.read (drop at s) ≡ r → located (length s) at r ≡ wrong_at p → Strays f s at p
  strays_go (value v rest) e q = absurd (let z : ◌≡◌ {A = ℕ} 0 1 = cc in omega arith)
  strays_go other e q = here (let z : at ≡ p = cc in sym z) e
  strays_go (wrong rest) e q =
      let z : length s - length rest ≡ p = cc in
      later rest (sym z) (omega (arith, z, firm (drop at s) rest e, length-drop at s)) e
  strays_go short e q = absurd (let z : ◌≡◌ {A = ℕ} 0 1 = cc in omega arith)

  pub firm_strays : locate f s at ≡ wrong_at p → Strays f s at p
  unfolding locate
  firm_strays e = strays_go (f.read (drop at s)) refl e

-- the same of a delimited format
module _ {A : Type 0} (w : ℕ) (f : Format A) (d : Delimited w f) (s : List ℕ) (at : ℕ) where
  abbrev pub Wronged : ℕ → Type 0
  Wronged = Strays f s at

  pub wronged : (p : ℕ) → locate f s at ≡ wrong_at p → Strays f s at p
  wronged = firm_strays f d.firm s at

module _ {A : Type 0} (f : Format A) (s : List ℕ) (at : ℕ) where
  cut_go : (r : Answer A) → located (length s) at r ≡ short_here → r ≡ short
  cut_go (value v rest) q = absurd (let z : ◌≡◌ {A = ℕ} 0 1 = cc in omega arith)
  cut_go other q = absurd (let z : ◌≡◌ {A = ℕ} 0 1 = cc in omega arith)
  cut_go (wrong rest) q = absurd (let z : ◌≡◌ {A = ℕ} 0 1 = cc in omega arith)
  cut_go short q = refl

  pub cut_reads : locate f s at ≡ short_here → f.read (drop at s) ≡ short
  unfolding locate
  cut_reads e = cut_go (f.read (drop at s)) e

-- where a value is found that takes n bytes
pub fixed_got : {A : Type 0} (w n : ℕ) (f : Format A) → Fixed w n f → (s : List ℕ) (at : ℕ) (a : A) (next : ℕ) → locate f s at ≡ found a next → (next ≡ at + n) × Got f s at a next
fixed_got w n f x s at a next e =
    let g = delimited_got w f x.delimited s at a next e in
    (g.size ∙ ap (λ k. at + k) (x.size a g.valid), g)

-- a whole token at once: what the writer writes is found
pub taken : {A : Type 0} (w n : ℕ) (f : Format A) → Fixed w n f → (s : List ℕ) (at : ℕ) (v : A) → f.Valid v → take n (drop at s) ≡ f.write v → locate f s at ≡ found v (at + n)
unfolding locate
taken w n f x s at v ok e =
    let d = x.delimited in
    let m = length (f.write v) in
    let rest = drop n (drop at s) in
    let z : drop at s ≡ f.write v ++ rest = sym (take-append-drop n (drop at s)) ∙ ap (λ k. k ++ rest) e in
    let l : length (drop at s) ≡ m + length rest = ap length z ∙ length-append (f.write v) rest in
    let k : length s - length rest ≡ at + n = omega (arith, l, length-drop at s, x.size v ok, solid w f d v ok) in
    ap (located (length s) at) (ap f.read z ∙ d.lawful.reads v rest ok (d.free v rest ok)) ∙ ap (found v) k

-- The combinators.

module _ {A B : Type 0} (f : Format A) (g : A → Format B) (s : List ℕ) (at : ℕ) where
  abbrev goes : A → ℕ → Located (A × B)
  goes a i = on_found (λ b. (a, b)) (locate (g a) s i)

  next_go : (a : A) (rest : List ℕ) (r : Answer B) → located {A = A × B} (length s) at (second (λ b. (a, b)) rest r) ≡ on_found {B = A × B} (λ b. (a, b)) (located (length s) (length s - length rest) r)
  next_go a rest (value b left) = refl
  next_go a rest other = refl
  next_go a rest (wrong left) = refl
  next_go a rest short = refl

  abbrev both : Answer A → Answer (A × B)
  both r = first r λ a rest. second (λ b. (a, b)) rest ((g a).read rest)

  sequence_go : (r : Answer A) → f.read (drop at s) ≡ r → ((a : A) (next : ℕ) → located (length s) at r ≡ found a next → Got f s at a next)
      → located (length s) at (both r) ≡ and_then (located (length s) at r) goes
  unfolding locate
  sequence_go (value a rest) e k =
      let j = k a (length s - length rest) refl in
      let y : rest ≡ drop (length s - length rest) s = same_left (sym e ∙ j.reads) in
      next_go a rest ((g a).read rest) ∙ ap (λ t. on_found {B = A × B} (λ b. (a, b)) (located (length s) (length s - length rest) ((g a).read t))) y
    where
      same_left : {u v : List ℕ} {x y : A} → value x u ≡ value y v → u ≡ v
      same_left e = cc
  sequence_go other e k = refl
  sequence_go (wrong rest) e k = refl
  sequence_go short e k = refl

  pub sequence_at_got : ((a : A) (next : ℕ) → locate f s at ≡ found a next → Got f s at a next)
      → locate (sequence f g) s at ≡ and_then (locate f s at) goes
  unfolding locate
  sequence_at_got k = sequence_go (f.read (drop at s)) refl k

pub sequence_at : {A B : Type 0} (w : ℕ) (f : Format A) (g : A → Format B) → Delimited w f → (s : List ℕ) (at : ℕ)
    → locate (sequence f g) s at ≡ and_then (locate f s at) λ a i. on_found {B = A × B} (λ b. (a, b)) (locate (g a) s i)
sequence_at w f g d s at = sequence_at_got f g s at (delimited_got w f d s at)

module _ {A B : Type 0} (f : Format A) (to : A → B) (from : B → A) (P : B → Type 0) (s : List ℕ) (at : ℕ) where
  mapped_go : (r : Answer A) → located (length s) at (first r λ a rest. value (to a) rest) ≡ on_found to (located (length s) at r)
  mapped_go (value a rest) = refl
  mapped_go other = refl
  mapped_go (wrong rest) = refl
  mapped_go short = refl

  pub mapped_at : locate (mapped f to from P) s at ≡ on_found to (locate f s at)
  unfolding locate
  mapped_at = mapped_go (f.read (drop at s))

module _ {A B : Type 0} (f : Format A) (g : Format B) (s : List ℕ) (at : ℕ) where
  abbrev left : Located A → Located (A ⊎ B)
  left = on_found inl

  first_go : (r : Answer A) (q : Answer B) → (r ≡ other → ⊥) → located (length s) at (or_else r q) ≡ left (located (length s) at r)
  first_go (value a rest) q n = refl
  first_go other q n = absurd (n refl)
  first_go (wrong rest) q n = refl
  first_go short q n = refl

  -- where the first of two has begun, it is read
  pub either_begun : (f.read (drop at s) ≡ other → ⊥) → locate (either f g) s at ≡ left (locate f s at)
  unfolding locate
  either_begun n = first_go (f.read (drop at s)) (g.read (drop at s)) n

  pub either_first : (locate f s at ≡ wrong_at at → ⊥) → locate (either f g) s at ≡ left (locate f s at)
  unfolding locate
  either_first n = either_begun λ e. n (ap (located (length s) at) e)

  second_go : (r : Answer B) → located {A = A ⊎ B} (length s) at (or_else other r) ≡ on_found inr (located (length s) at r)
  second_go (value b rest) = refl
  second_go other = refl
  second_go (wrong rest) = refl
  second_go short = refl

  -- where it has not, the second is
  pub either_passed : f.read (drop at s) ≡ other → locate (either f g) s at ≡ on_found inr (locate g s at)
  unfolding locate
  either_passed e = ap (λ r. located {A = A ⊎ B} (length s) at (or_else r (g.read (drop at s)))) e ∙ second_go (g.read (drop at s))

  pub either_second : Firm f → locate f s at ≡ wrong_at at → locate (either f g) s at ≡ on_found inr (locate g s at)
  either_second firm e = go (firm_strays f firm s at at e)
    where
      go : Strays f s at at → locate (either f g) s at ≡ on_found inr (locate g s at)
      go (here z o) = either_passed o
      go (later rest z k o) = absurd (omega arith)
