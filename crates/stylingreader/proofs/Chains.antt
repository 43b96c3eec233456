-- Parts that are read one after the other: a function that reads them only cites these.
use Prim.Native.Nat.{ℕ, ◌+◌, ◌≤◌}
use mathlib.Core.List.{List}
use mathlib.Core.Path.{◌≡◌, refl, sym, ap, ◌∙◌}
use mathlib.Core.Bool.{Bool, true, false, ◌&&◌}
use mathlib.Core.Option.{none, some}
use lib.Dec.{ltb}
use lib.ListN.{length}
use Rattle.format.specs.Format.{Format, choose, sequence, mapped, optional}
use Rattle.format.specs.Located.{Located, found, wrong_at, short_here, locate, and_then, on_found}
use Rattle.format.proofs.Lawful.{Lawful}
use Rattle.format.proofs.At.{Got, got, sequence_at_got, mapped_at}
use Rattle.charset.specs.Bytes.{byte, after}
use Rattle.charset.proofs.FixedByte.{after_at}
use Rattle.std.specs.Prelude.{Result as Answer, Ok, Err}
use Rattle.token.specs.declared.refusal.Refusal.{Refusal}
use Rattle.token.specs.declared.refusal.Refusal.TheVariants.{TextWrong, TextShort}
use Rattle.std.specs.Result.{IsErrAnd}
use Rattle.token.specs.Token.{told, token_at}
use Rattle.token.proofs.Handed.{handed}
use Rattle.stylinggrammar.specs.Styling.{before}
use Rattle.stylingreader.specs.declared.part.Part.{Part}
use Rattle.stylingreader.specs.Parts.{Taking, Took, PartIs, PartIn, both, perhaps, joined_part, stands_at, passed_part, missing, closed_by, closed_part}
use Rattle.stylingreader.proofs.Marks.{stands_so}
use Rattle.stylingreader.proofs.Fixed.{missing_at, byte_told, maybe_there, maybe_absent}

-- A PART THAT WAS READ
pub record Taken {A : Type 0} (f : Format A) (k : Taking A) (s : List ℕ) (at : ℕ) (r : Part) (o p : List ℕ) : Type 0 where
  pub value : A
  pub got : Got f s at value r.place
  pub is : locate f s at ≡ found value r.place
  pub took : Took k value r.place r o p

pub part_as : {A : Type 0} (f : Format A) (k : Taking A) (s : List ℕ) (at : ℕ) (l : Located A) (r : Answer Part Refusal) (o p : List ℕ) → locate f s at ≡ l → PartIs (length s) k l r o p
    → PartIn f k s at r o p
part_as f k s at l r o p e x = record { is = rw e x }

module _ {A : Type 0} (f : Format A) (k : Taking A) (s : List ℕ) (at : ℕ) (r : Part) (o p : List ℕ) (l : Lawful 1 f) (h : at ≤ length s) where
  taken_go : (m : Located A) → locate f s at ≡ m → PartIs (length s) k m (Ok r) o p → Taken f k s at r o p
  taken_go (found a next) e x =
      let q : locate f s at ≡ found a r.place = e ∙ ap (found a) (sym x.place) in
      record {
        value = a;
        got = got 1 f l s at h a r.place q;
        is = q;
        took = record { place = refl; zooms = x.zooms; names = x.names; amount = x.amount; holds = x.holds };
      }
  taken_go (wrong_at q) e x = absurd (cc x)
  taken_go short_here e x = absurd (cc x)

  pub taken : PartIn f k s at (Ok r) o p → Taken f k s at r o p
  taken x = taken_go (locate f s at) refl x.is

-- a refusal that is handed on
pub handed_part : {A : Type 0} {f : Format A} {k : Taking A} {s : List ℕ} {at : ℕ} {o p : List ℕ} {r : Answer Part Refusal} {e : Refusal} → IsErrAnd r (λ d. d ≡ e)
    → PartIn f k s at (Err e) o p → PartIn f k s at r o p
handed_part {r = r} {e = e} h x = let q : r ≡ Err e = handed r e h in rw q x

-- where the first part fails, what it begins fails alike, whatever the memory holds
fails_go : {A B : Type 0} (size : ℕ) (k : Taking A) (j : Taking B) (g : A → ℕ → Located B) (e : Refusal) (o p m q : List ℕ) → (l : Located A)
    → PartIs size k l (Err e) o p → PartIs size j (and_then l g) (Err e) m q
fails_go size k j g e o p m q (found a next) x = absurd x
fails_go size k j g e o p m q (wrong_at i) x = x
fails_go size k j g e o p m q short_here x = x

pub part_fails : {A B : Type 0} (f : Format A) (k : Taking A) (i : ℕ) (h : Format B) (j : Taking B) (g : A → ℕ → Located B) (s : List ℕ) (at : ℕ) (e : Refusal) (o p m q : List ℕ)
    → locate h s at ≡ and_then (locate f s i) g → PartIn f k s i (Err e) o p → PartIn h j s at (Err e) m q
part_fails f k i h j g s at e o p m q l x = part_as h j s at (and_then (locate f s i) g) (Err e) m q l (fails_go (length s) k j g e o p m q (locate f s i) x.is)

pub sequence_is : {A B : Type 0} (f : Format A) (g : A → Format B) → Lawful 1 f → (s : List ℕ) (at : ℕ) → at ≤ length s
    → locate (sequence f g) s at ≡ and_then (locate f s at) λ a i. on_found {B = A × B} (λ b. (a, b)) (locate (g a) s i)
sequence_is f g l s at h = sequence_at_got f g s at (got 1 f l s at h)

-- TWO PARTS
module _ {A B : Type 0} (f : Format A) (g : A → Format B) (l : Lawful 1 f) (k : Taking A) (j : A → Taking B) (s : List ℕ) (at : ℕ) (h : at ≤ length s) where
  pub first_fails : (e : Refusal) (o p : List ℕ) → PartIn f k s at (Err e) o p → (i : Taking (A × B)) (m q : List ℕ) → PartIn (sequence f g) i s at (Err e) m q
  first_fails e o p x i m q =
      part_fails f k at (sequence f g) i (λ a i. on_found {B = A × B} (λ b. (a, b)) (locate (g a) s i)) s at e o p m q (sequence_is f g l s at h) x

  module _ (r : Part) (o p : List ℕ) (x : Taken f k s at r o p) where
    second_is : locate (sequence f g) s at ≡ on_found {B = A × B} (λ b. (x.value, b)) (locate (g x.value) s r.place)
    second_is = sequence_is f g l s at h ∙ ap (λ l. and_then l λ a i. on_found {B = A × B} (λ b. (a, b)) (locate (g a) s i)) x.is

    second_go : (a : A) (i : Taking (A × B)) (e : Refusal) (q m n : List ℕ) (t : Located B) → PartIs (length s) (j a) t (Err e) p q
        → PartIs (length s) i (on_found {B = A × B} (λ b. (a, b)) t) (Err e) m n
    second_go a i e q m n (found b next) y = absurd y
    second_go a i e q m n (wrong_at z) y = y
    second_go a i e q m n short_here y = y

    pub second_fails : (e : Refusal) (q : List ℕ) → PartIn (g x.value) (j x.value) s r.place (Err e) p q → (i : Taking (A × B)) (m n : List ℕ)
        → PartIn (sequence f g) i s at (Err e) m n
    second_fails e q y i m n =
        part_as (sequence f g) i s at (on_found {B = A × B} (λ b. (x.value, b)) (locate (g x.value) s r.place)) (Err e) m n second_is
        (second_go x.value i e q m n (locate (g x.value) s r.place) y.is)

    joined_go : (a : A) (next : ℕ) → Took k a next r o p → (m : Located B) (t : Part) (q : List ℕ) → PartIs (length s) (j a) m (Ok t) p q
        → PartIs (length s) (both k j) (on_found {B = A × B} (λ b. (a, b)) m) (Ok (joined_part r t)) o q
    joined_go a next w (found b i) t q y = record {
      place = y.place;
      zooms = λ i. w.zooms i && y.zooms i;
      names = λ i. w.names i && y.names i;
      amount = y.amount;
      holds = y.holds ∙ ap ((j a).put b) w.holds;
    }
    joined_go a next w (wrong_at i) t q y = absurd (cc y)
    joined_go a next w short_here t q y = absurd (cc y)

    pub joins : (t c : Part) (q : List ℕ) → PartIn (g x.value) (j x.value) s r.place (Ok t) p q → c ≡ joined_part r t → PartIn (sequence f g) (both k j) s at (Ok c) o q
    joins t c q y e =
        rw e (part_as (sequence f g) (both k j) s at (on_found {B = A × B} (λ b. (x.value, b)) (locate (g x.value) s r.place)) (Ok (joined_part r t)) o q second_is
        (joined_go x.value r.place x.took (locate (g x.value) s r.place) t q y.is))

-- the same where the second part does not depend on the first
module _ {A B : Type 0} (f : Format A) (g : Format B) (l : Lawful 1 f) (k : Taking A) (j : Taking B) (s : List ℕ) (at : ℕ) (h : at ≤ length s) where
  pub part_stops : (e : Refusal) (o p q : List ℕ) → PartIn f k s at (Err e) o p → PartIn (sequence f λ a. g) (both k λ a. j) s at (Err e) o q
  part_stops e o p q x = first_fails f (λ a. g) l k (λ a. j) s at h e o p x (both k λ a. j) o q

  module _ (r : Part) (o p : List ℕ) (x : PartIn f k s at (Ok r) o p) where
    pub part_room : r.place ≤ length s
    part_room = (taken f k s at r o p l h x).got.room

    pub part_stops_next : (e : Refusal) (q : List ℕ) → PartIn g j s r.place (Err e) p q → PartIn (sequence f λ a. g) (both k λ a. j) s at (Err e) o q
    part_stops_next e q y = second_fails f (λ a. g) l k (λ a. j) s at h r o p (taken f k s at r o p l h x) e q y (both k λ a. j) o q

    pub part_goes_on : (t c : Part) (q : List ℕ) → PartIn g j s r.place (Ok t) p q → c ≡ joined_part r t → PartIn (sequence f λ a. g) (both k λ a. j) s at (Ok c) o q
    part_goes_on = joins f (λ a. g) l k (λ a. j) s at h r o p (taken f k s at r o p l h x)

-- THE SAME UNDER OTHER VALUES
pub record Alike {A B : Type 0} (to : A → B) (k : Taking A) (j : Taking B) : Type 0 where
  pub zooms : (a : A) → k.zooms a ≡ j.zooms (to a)
  pub names : (a : A) → k.names a ≡ j.names (to a)
  pub amount : (a : A) → k.amount a ≡ j.amount (to a)
  pub put : (a : A) (o : List ℕ) → k.put a o ≡ j.put (to a) o

alike_go : {A B : Type 0} (to : A → B) (k : Taking A) (j : Taking B) → Alike to k j → (size : ℕ) (r : Answer Part Refusal) (o p : List ℕ) (l : Located A)
    → PartIs size k l r o p → PartIs size j (on_found to l) r o p
alike_go to k j e size (Err n) o p (found a next) x = x
alike_go to k j e size (Ok r) o p (found a next) x = record {
  place = x.place;
  zooms = x.zooms ∙ e.zooms a;
  names = x.names ∙ e.names a;
  amount = x.amount ∙ e.amount a;
  holds = x.holds ∙ e.put a o;
}
alike_go to k j e size r o p (wrong_at q) x = x
alike_go to k j e size r o p short_here x = x

pub mapped_part : {A B : Type 0} (f : Format A) (to : A → B) (from : B → A) (P : B → Type 0) (k : Taking A) (j : Taking B) → Alike to k j
    → (s : List ℕ) (at : ℕ) (r : Answer Part Refusal) (o p : List ℕ) → PartIn f k s at r o p → PartIn (mapped f to from P) j s at r o p
mapped_part f to from P k j e s at r o p x =
    part_as (mapped f to from P) j s at (on_found to (locate f s at)) r o p (mapped_at f to from P s at) (alike_go to k j e (length s) r o p (locate f s at) x.is)

same_go : {A : Type 0} (l : Located A) → l ≡ on_found (λ a. a) l
same_go (found a next) = refl
same_go (wrong_at q) = refl
same_go short_here = refl

pub alike_part : {A : Type 0} (f : Format A) (k j : Taking A) → Alike (λ a. a) k j → (s : List ℕ) (at : ℕ) (r : Answer Part Refusal) (o p : List ℕ) → PartIn f k s at r o p → PartIn f j s at r o p
alike_part f k j e s at r o p x =
    part_as f j s at (on_found (λ a. a) (locate f s at)) r o p (same_go (locate f s at)) (alike_go (λ a. a) k j e (length s) r o p (locate f s at) x.is)

-- A FIXED BYTE, and then a part

pub missing_part_lem : {A : Type 0} (k : Taking A) (s : List ℕ) (at : ℕ) (o p : List ℕ) → PartIs (length s) k (missing_at s at) (Err (missing s at)) o p
unfolding missing
missing_part_lem k s at o p = go (ltb at (length s))
  where
    go : (t : Bool) → PartIs (length s) k (choose t (wrong_at at) short_here) (Err (choose t (TextWrong at) (TextShort (length s)))) o p
    go true = refl
    go false = refl

module _ {A : Type 0} (b : ℕ) (f : Format A) (k : Taking A) (s : List ℕ) (at : ℕ) (o p : List ℕ) where
  after_go : (e : Refusal) (l : Located ℕ) → told (length s) l ≡ Err e → PartIs (length s) k (and_then l λ a i. locate f s i) (Err e) o p
  after_go e (found a i) q = absurd (cc q)
  after_go e (wrong_at i) q = let z : e ≡ TextWrong i = cc in ap Err z
  after_go e short_here q = let z : e ≡ TextShort (length s) = cc in ap Err z

  pub after_fails : (e : Refusal) → token_at (byte b) s at ≡ Err e → PartIn (after b f) k s at (Err e) o p
  unfolding token_at
  after_fails e q = part_as (after b f) k s at (and_then (locate (byte b) s at) λ a i. locate f s i) (Err e) o p (after_at b f s at) (after_go e (locate (byte b) s at) q)

  pub after_goes : (v : ℕ) → token_at (byte b) s at ≡ Ok v → (r : Answer Part Refusal) → PartIn f k s (at + 1) r o p → PartIn (after b f) k s at r o p
  after_goes v q r x = part_as (after b f) k s at (locate f s (at + 1)) r o p (after_at b f s at ∙ ap (λ l. and_then l λ a i. locate f s i) (byte_told b s at v q).is) x.is

-- after a byte that was read
pub byte_room : (b : ℕ) (s : List ℕ) (at v : ℕ) → token_at (byte b) s at ≡ Ok v → at + 1 ≤ length s
byte_room b s at v q = (byte_told b s at v q).room

-- a part that may be absent
module _ {A : Type 0} (b : ℕ) (f : Format A) (k : Taking A) (s : List ℕ) (at : ℕ) (o p : List ℕ) (t : Bool) (e : t ≡ stands_at s at b) where
  pub part_absent : at ≤ length s → t ≡ false → (r : Part) → r ≡ passed_part at 0 → p ≡ o → PartIn (optional (after b f)) (perhaps k) s at (Ok r) o p
  part_absent h n r q c =
      part_as (optional (after b f)) (perhaps k) s at (found none at) (Ok r) o p (maybe_absent b s at f h (sym e ∙ n))
      (rw q (record { place = refl; zooms = refl; names = refl; amount = refl; holds = c }))

  pub part_there : t ≡ true → (r : Answer Part Refusal) → PartIn f k s (at + 1) r o p → PartIn (optional (after b f)) (perhaps k) s at r o p
  part_there y r x =
      part_as (optional (after b f)) (perhaps k) s at (on_found some (locate f s (at + 1))) r o p (maybe_there b s at f (stands_so s at b (sym e ∙ y)))
      (alike_go some k (perhaps k) (record { zooms = λ a. refl; names = λ a. refl; amount = λ a. refl; put = λ a o. refl }) (length s) r o p (locate f s (at + 1)) x.is)

-- A PART AND THEN A FIXED BYTE
module _ {A : Type 0} (b : ℕ) (f : Format A) (l : Lawful 1 f) (k : Taking A) (s : List ℕ) (at : ℕ) (h : at ≤ length s) (o p : List ℕ) where
  abbrev ends : A → ℕ → Located A
  ends a i = on_found (λ p. p.0) (on_found {B = A × ℕ} (λ v. (a, v)) (locate (byte b) s i))

  before_go : (m : Located A) → on_found (λ p. p.0) (and_then m λ a i. on_found {B = A × ℕ} (λ v. (a, v)) (locate (byte b) s i)) ≡ and_then m ends
  before_go (found a i) = refl
  before_go (wrong_at q) = refl
  before_go short_here = refl

  before_is : locate (before b f) s at ≡ and_then (locate f s at) ends
  before_is =
      mapped_at (sequence f λ a. byte b) (λ p. p.0) (λ v. (v, b)) f.Valid s at
      ∙ ap (on_found (λ p. p.0)) (sequence_at_got f (λ a. byte b) s at (got 1 f l s at h))
      ∙ before_go (locate f s at)

  -- where the part fails
  pub closed_fails : (e : Refusal) → PartIn f k s at (Err e) o p → PartIn (before b f) k s at (Err e) o p
  closed_fails e x = part_as (before b f) k s at (and_then (locate f s at) ends) (Err e) o p before_is (fails_go (length s) k k ends e o p o p (locate f s at) x.is)

  module _ (r : Part) (x : PartIn f k s at (Ok r) o p) where
    part : Taken f k s at r o p
    part = taken f k s at r o p l h x

    closed_go : (a : A) → Took k a r.place r o p → (m : Located ℕ) → locate (byte b) s r.place ≡ m
        → PartIs (length s) k (on_found (λ p. p.0) (on_found {B = A × ℕ} (λ v. (a, v)) m)) (closed_by r (told (length s) m)) o p
    unfolding token_at
    closed_go a w (found v i) e =
        let q : i ≡ r.place + 1 = let y = (byte_told b s r.place v (ap (told (length s)) e)).is in cc in
        record { place = sym q; zooms = w.zooms; names = w.names; amount = w.amount; holds = w.holds }
    closed_go a w (wrong_at i) e = refl
    closed_go a w short_here e = refl

    pub part_closed : (c : Answer Part Refusal) → c ≡ closed_part s r b → PartIn (before b f) k s at c o p
    unfolding token_at
    part_closed c e =
        rw e (part_as (before b f) k s at (ends part.value r.place) (closed_part s r b) o p (before_is ∙ ap (λ l. and_then l ends) part.is)
        (closed_go part.value part.took (locate (byte b) s r.place) refl))

-- WHAT THE MEMORY HOLDS BESIDES
module _ {A : Type 0} (f : Format A) (k j : Taking A) (s : List ℕ) (at : ℕ) (r : Part) (o p m q : List ℕ) (zooms : (a : A) → k.zooms a ≡ j.zooms a)
    (names : (a : A) → k.names a ≡ j.names a) (amount : (a : A) → k.amount a ≡ j.amount a)
    (puts : (a : A) → r.amount ≡ k.amount a → p ≡ k.put a o → q ≡ j.put a m) where
  beside_go : (l : Located A) → PartIs (length s) k l (Ok r) o p → PartIs (length s) j l (Ok r) m q
  beside_go (found a next) x = record {
    place = x.place;
    zooms = x.zooms ∙ zooms a;
    names = x.names ∙ names a;
    amount = x.amount ∙ amount a;
    holds = puts a x.amount x.holds;
  }
  beside_go (wrong_at i) x = x
  beside_go short_here x = x

  -- what is put before a part, or after it, is put with it
  pub part_beside : PartIn f k s at (Ok r) o p → PartIn f j s at (Ok r) m q
  part_beside x = record { is = beside_go (locate f s at) x.is }

-- nothing is said of the memory where a part fails
failed_go : {A : Type 0} (size : ℕ) (k j : Taking A) (e : Refusal) (o p m q : List ℕ) (l : Located A) → PartIs size k l (Err e) o p → PartIs size j l (Err e) m q
failed_go size k j e o p m q (found a next) x = absurd x
failed_go size k j e o p m q (wrong_at i) x = x
failed_go size k j e o p m q short_here x = x

pub part_failed : {A : Type 0} (f : Format A) (k j : Taking A) (s : List ℕ) (at : ℕ) (e : Refusal) (o p m q : List ℕ) → PartIn f k s at (Err e) o p → PartIn f j s at (Err e) m q
part_failed f k j s at e o p m q x = record { is = failed_go (length s) k j e o p m q (locate f s at) x.is }
