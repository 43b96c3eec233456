-- An exact format: a lawful one that refuses a text at the first unit with which no well-formed text goes on.
use Prim.Native.Nat.{ℕ, ◌≤◌, ◌<◌}
use mathlib.Core.List.{List, [], ◌∷◌, ◌++◌, append_assoc, append-nil}
use mathlib.Core.Path.{◌≡◌, refl, sym, ap, ◌∙◌}
use lib.ListN.{length, drop, take, length-append, take-append-drop}
use lib.Seq.{take-append-le, take_at}
use native.Mathlib.Omega.{arith}
use Rattle.format.specs.Format.{Answer, value, other, wrong, short, Format, second, Absent}
use Rattle.format.specs.Places.{Whole, Begins}
use Rattle.format.proofs.Lawful.{Lawful, whole_append}

-- a unit that the format cannot begin with
pub record Strange (w : ℕ) {A : Type 0} (f : Format A) (text : List ℕ) : Type 0 where
  pub here : List ℕ
  pub tail : List ℕ
  pub is : text ≡ here ++ tail
  pub long : length here ≡ w
  pub stays : (t : List ℕ) → f.read (here ++ t) ≡ other

-- a beginning of whole units, and after it a unit with which no well-formed text goes on
pub record Bad (w : ℕ) {A : Type 0} (f : Format A) (text rest : List ℕ) : Type 0 where
  pub front : List ℕ
  pub here : List ℕ
  pub tail : List ℕ
  pub splits : text ≡ front ++ rest
  pub is : rest ≡ here ++ tail
  pub long : length here ≡ w
  pub whole : Whole w front
  pub begins : Begins f front
  pub stays : (t : List ℕ) → f.read (front ++ (here ++ t)) ≡ wrong (here ++ t)

-- a beginning of whole units, and after it less than a unit
pub record Cut (w : ℕ) {A : Type 0} (f : Format A) (text : List ℕ) : Type 0 where
  pub front : List ℕ
  pub bit : List ℕ
  pub is : text ≡ front ++ bit
  pub less : length bit < w
  pub whole : Whole w front
  pub begins : Begins f front

-- what each refusal means
abbrev pub Fails : (w : ℕ) {A : Type 0} → Format A → List ℕ → Answer A → Type 0
Fails w f text (value v rest) = Unit
Fails w f text other = Strange w f text
Fails w f text (wrong rest) = Bad w f text rest
Fails w f text short = Cut w f text

pub record Exact (w : ℕ) {A : Type 0} (f : Format A) : Type 0 where
  pub lawful : Lawful w f
  pub wide : 1 ≤ w
  pub some : Begins f []
  -- the next unit decides what may follow
  pub keeps : (v : A) (x t u : List ℕ) → f.Valid v → w ≤ length x → f.Follow v (x ++ t) → f.Follow v (x ++ u)
  pub fails : (text : List ℕ) → Fails w f text (f.read text)

pub begins_more : {A C : Type 0} (f : Format A) (h : Format C) (x : List ℕ)
    → ((a : A) → f.Valid a → Begins h (f.write a)) → Begins f x → Begins h x
begins_more f h x extends b =
    let e = extends b.says b.valid in
    record {
      says = e.says;
      valid = e.valid;
      more = b.more ++ e.more;
      is = e.is ∙ ap (λ l. l ++ e.more) b.is ∙ append_assoc x b.more e.more;
    }

pub first_strange : {A C : Type 0} (w : ℕ) (f : Format A) (h : Format C) → ((x : List ℕ) → f.read x ≡ other → h.read x ≡ other) → (text : List ℕ)
    → Strange w f text → Strange w h text
first_strange w f h same text s =
    record { here = s.here; tail = s.tail; is = s.is; long = s.long; stays = λ t. same (s.here ++ t) (s.stays t) }

module _ {A C : Type 0} (w : ℕ) (f : Format A) (h : Format C) (extends : (a : A) → f.Valid a → Begins h (f.write a)) where
  -- where the first part fails, so does the whole
  pub first_bad_lem : ((x y : List ℕ) → f.read x ≡ wrong y → h.read x ≡ wrong y) → (text rest : List ℕ) → Bad w f text rest → Bad w h text rest
  first_bad_lem same text rest b = record {
    front = b.front;
    here = b.here;
    tail = b.tail;
    splits = b.splits;
    is = b.is;
    long = b.long;
    whole = b.whole;
    begins = begins_more f h b.front extends b.begins;
    stays = λ t. same (b.front ++ (b.here ++ t)) (b.here ++ t) (b.stays t);
  }

  pub first_cut : (text : List ℕ) → Cut w f text → Cut w h text
  first_cut text b = record {
    front = b.front;
    bit = b.bit;
    is = b.is;
    less = b.less;
    whole = b.whole;
    begins = begins_more f h b.front extends b.begins;
  }

-- a first unit that is strange stays so, whatever follows
pub other_stays : {A : Type 0} (w : ℕ) (f : Format A) → Exact w f → (x t u : List ℕ) → w ≤ length x → f.read (x ++ t) ≡ other → f.read (x ++ u) ≡ other
other_stays w f l x t u h e =
    let s : Strange w f (x ++ t) = rw e at (l.fails (x ++ t)) in
    let z : take w x ≡ s.here = sym (take-append-le w x t h) ∙ ap (take w) s.is ∙ take_at s.here s.tail w s.long in
    let y : x ++ u ≡ s.here ++ (drop w x ++ u) =
    ap (λ k. k ++ u) (sym (take-append-drop w x)) ∙ append_assoc (take w x) (drop w x) u ∙ ap (λ k. k ++ (drop w x ++ u)) z in
    ap f.read y ∙ s.stays (drop w x ++ u)

absent_go : {A : Type 0} (w : ℕ) (f : Format A) → Exact w f → (x t u : List ℕ) → w ≤ length x → (r : Answer A) → f.read (x ++ t) ≡ r
    → Absent (x ++ t) r → Absent (x ++ u) (f.read (x ++ u))
absent_go w f l x t u h (value a rest) e p = absurd p
absent_go w f l x t u h other e p = rw (other_stays w f l x t u h e) tt
absent_go w f l x t u h (wrong rest) e p = absurd p
absent_go w f l [] t u h short e p = absurd (omega (arith, l.wide))
absent_go w f l (b ∷ x) t u h short e p = absurd p

pub absent_keeps : {A : Type 0} (w : ℕ) (f : Format A) → Exact w f → (x t u : List ℕ) → w ≤ length x
    → Absent (x ++ t) (f.read (x ++ t)) → Absent (x ++ u) (f.read (x ++ u))
absent_keeps w f l x t u h p = absent_go w f l x t u h (f.read (x ++ t)) refl p

-- what is read second, after the value a of the first: h is a format whose values say a and then a value of g
module _ {A B C : Type 0} (w : ℕ) (f : Format A) (g : Format B) (h : Format C) (l : Exact w f) (a : A) (ok : f.Valid a) (c : B → C)
    (writes : (b : B) → h.write (c b) ≡ f.write a ++ g.write b)
    (valid : (b : B) → g.Valid b → h.Valid (c b))
    (reads : (y : List ℕ) → f.Follow a y → h.read (f.write a ++ y) ≡ second c y (g.read y))
    (any : Begins g []) where
  begins_after : (x : List ℕ) → Begins g x → Begins h (f.write a ++ x)
  begins_after x b = record {
    says = c b.says;
    valid = valid b.says b.valid;
    more = b.more;
    is = writes b.says ∙ ap (λ k. f.write a ++ k) b.is ∙ sym (append_assoc (f.write a) x b.more);
  }

  whole_after : (x : List ℕ) → Whole w x → Whole w (f.write a ++ x)
  whole_after x = whole_append w (f.write a) x (l.lawful.whole a ok)

  -- the first part is read alike, whatever follows the unit that fails
  reads_on : (x t u : List ℕ) → w ≤ length x → f.Follow a (x ++ t) → h.read (f.write a ++ (x ++ u)) ≡ second c (x ++ u) (g.read (x ++ u))
  reads_on x t u k p = reads (x ++ u) (l.keeps a x t u ok k p)

  pub second_fails : (rest : List ℕ) → f.Follow a rest → (r : Answer B) → Fails w g rest r → Fails w h (f.write a ++ rest) (second c rest r)
  second_fails rest p (value b left) s = tt
  second_fails rest p other s = record {
    front = f.write a;
    here = s.here;
    tail = s.tail;
    splits = refl;
    is = s.is;
    long = s.long;
    whole = l.lawful.whole a ok;
    begins = rw (append-nil (f.write a)) at (begins_after [] any);
    stays = λ t. reads_on s.here s.tail t (omega (arith, s.long)) (rw s.is at p) ∙ ap (second c (s.here ++ t)) (s.stays t);
  }
  second_fails rest p (wrong left) s =
      let e : rest ≡ (s.front ++ s.here) ++ s.tail = s.splits ∙ ap (λ k. s.front ++ k) s.is ∙ sym (append_assoc s.front s.here s.tail) in
      record {
        front = f.write a ++ s.front;
        here = s.here;
        tail = s.tail;
        splits = ap (λ k. f.write a ++ k) s.splits ∙ sym (append_assoc (f.write a) s.front left);
        is = s.is;
        long = s.long;
        whole = whole_after s.front s.whole;
        begins = begins_after s.front s.begins;
        stays = λ t.
            let z : (s.front ++ s.here) ++ t ≡ s.front ++ (s.here ++ t) = append_assoc s.front s.here t in
            ap h.read (append_assoc (f.write a) s.front (s.here ++ t) ∙ ap (λ k. f.write a ++ k) (sym z))
            ∙ reads_on (s.front ++ s.here) s.tail t (omega (arith, s.long, length-append s.front s.here)) (rw e at p)
            ∙ ap (λ k. second c k (g.read k)) z
            ∙ ap (second c (s.front ++ (s.here ++ t))) (s.stays t);
      }
  second_fails rest p short s = record {
    front = f.write a ++ s.front;
    bit = s.bit;
    is = ap (λ k. f.write a ++ k) s.is ∙ sym (append_assoc (f.write a) s.front s.bit);
    less = s.less;
    whole = whole_after s.front s.whole;
    begins = begins_after s.front s.begins;
  }
