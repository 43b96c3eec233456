-- THE LAW OF PLACES where a wrong number is told at its first byte, once for every grammar.
use Prim.Native.Nat.{ℕ, zero, suc, ◌+◌, ◌-◌, ◌≤◌, ◌<◌}
use mathlib.Core.List.{List, [], ◌∷◌, ◌++◌, append_assoc, append-nil}
use mathlib.Core.Path.{◌≡◌, refl, sym, ap, ◌∙◌}
use mathlib.Core.Bool.{Bool, true, false}
use mathlib.Core.Logic.{◌⊎◌, inl, inr, ◌↔◌}
use lib.Dec.{ltb}
use lib.ListN.{length, take, drop, length-append, length-drop, take-append-drop}
use lib.Seq.{take_at, drop_at, take_all, take-append_seam, length-take-le}
use native.Mathlib.Omega.{arith}
use borrow.Author.Tests.{ltb-true, ltb-false, le-ltb}
use Rattle.format.specs.Format.{Answer, value, other, wrong, short, Format, All, first, second, sequence, end, end_read}
use Rattle.format.specs.Numeral.{Range}
use Rattle.format.specs.Numbers.{InNumber, Place, stays, moves, ByNumbers}
use Rattle.format.specs.Places.{Begins, Formed, Outcome, refused, ends_short, outcome, whole, reading, FirstWrong}
use Rattle.format.proofs.Lawful.{Says, Lawful}
use Rattle.format.proofs.Exact.{Exact, Fails}
use Rattle.format.proofs.ExactParts.{end_exact}
use Rattle.format.proofs.Reading.{whole_inverse, whole_lawful}
use Rattle.format.proofs.Places.{by_bytes, begins_less}
use Rattle.format.proofs.Numbered.{Led, Late, there, unbegun, past, Shut, Calls, Like, same, moved, Numbered, mapped_numbered, first_numbered}

-- Outcomes.
refused_short : {A X : Type 0} {p : ℕ} → ◌≡◌ {A = Outcome A} (refused p) ends_short → X
refused_short e = absurd (let z : ◌≡◌ {A = ℕ} 0 1 = cc in omega arith)

same_place : {A : Type 0} {p q : ℕ} → ◌≡◌ {A = Outcome A} (refused p) (refused q) → p ≡ q
same_place e = cc

led_nil : {X : Type 0} (start : List ℕ) → Led start → start ≡ [] → X
led_nil [] h e = absurd h
led_nil (b ∷ start) h e = absurd (let z : ◌≡◌ {A = ℕ} (suc (length start)) 0 = ap length e in omega arith)

begun : (u : List ℕ) (m : ℕ) → 1 ≤ m → 1 ≤ length u → All (Range 48 57) (take m u) → Led u
begun [] m h k a = absurd (omega arith)
begun (b ∷ u) zero h k a = absurd (omega arith)
begun (b ∷ u) (suc m) h k a = a.0

empty : (k : List ℕ) → length k < 1 → k ≡ []
empty [] h = refl
empty (a ∷ k) h = absurd (omega arith)

end_other : Shut (end_read 1)
end_other [] h = absurd h
end_other (b ∷ start) h = unbegun refl (rw (le-ltb (length (b ∷ start)) 1 (omega arith)))

-- what a reader does not go on with at start is refused there
module _ {A : Type 0} (f : Format A) (l : Lawful 1 f) where
  left_none : (text : List ℕ) (v : A) (left : List ℕ) → Says (whole 1 f) text (value v left) → left ≡ []
  left_none text v left s = s.2.0

  late_refused : (x start : List ℕ) → Led start → Late x start ((whole 1 f).read (x ++ start)) → reading 1 f (x ++ start) ≡ refused (length x)
  late_refused x start h (there e) = ap (outcome (x ++ start)) e ∙ ap refused (omega (arith, length-append x start))
  late_refused x start h (unbegun z e) = ap (outcome (x ++ start)) e ∙ ap (λ k. refused (length k)) (sym z)
  late_refused x start h (past v e) =
      led_nil start h (left_none (x ++ start) v start (rw e at ((whole_lawful 1 f l).says (x ++ start))))

-- one or two decimal digits before what is wrong in a number
pub record Before (start rest : List ℕ) : Type 0 where
  pub here : List ℕ
  pub is : start ≡ here ++ rest
  pub size : (length here ≡ 1) ⊎ (length here ≡ 2)
  pub digits : All (Range 48 57) here

pub before_led : (start rest : List ℕ) → Before start rest → Led start
before_led start rest b = rw b.is (go b.here b.size b.digits)
  where
    go : (h : List ℕ) → (length h ≡ 1) ⊎ (length h ≡ 2) → All (Range 48 57) h → Led (h ++ rest)
    go [] (inl e) d = absurd (omega (arith, e))
    go [] (inr e) d = absurd (omega (arith, e))
    go (a ∷ h) s d = d.0

-- N is the number, of three bytes
module _ (N : Format ℕ) (E : Exact 1 N) (three : (n : ℕ) → N.Valid n → length (N.write n) ≡ 3)
    (before : (start rest : List ℕ) → N.read start ≡ wrong rest → Before start rest) where
  led : (start rest : List ℕ) → N.read start ≡ wrong rest → Led start
  led start rest e = before_led start rest (before start rest e)

  -- f has exact places; t writes the same and tells a wrong number at its first byte
  module _ {A : Type 0} (C : List ℕ → Type 0) (f t : Format A) (l : Exact 1 f) (told : Lawful 1 t) (ready : (v : A) → f.Valid v → f.Follow v [])
      (writes : (v : A) → t.write v ≡ f.write v) (good : (v : A) → t.Valid v → f.Valid v) (sound : (v : A) → f.Valid v → t.Valid v)
      (s : Numbered N C f t.read) where
    n : Numbered N C (whole 1 f) (whole 1 t).read
    n =
        mapped_numbered N C (sequence f λ a. end 1) (λ text. first (t.read text) λ a rest. second (λ u. (a, u)) rest (end_read 1 rest)) (λ p. p.0) (λ a. (a, tt)) f.Valid
        (whole_inverse 1 f) (first_numbered N C f t.read (end 1) l (end_exact 1 (omega arith)).some s end_other)

    whole-begins : (x : List ℕ) → Begins (whole 1 f) x → Begins f x
    whole-begins x b = record { says = b.says; valid = b.valid; more = b.more; is = sym (append-nil (f.write b.says)) ∙ b.is }

    -- BOTH READINGS OF A TEXT
    data Outcomes (text : List ℕ) : Type 0 where
      alike : reading 1 t text ≡ reading 1 f text → Outcomes text
      shifted : (p q : ℕ) → reading 1 f text ≡ refused q → reading 1 t text ≡ refused p → InNumber C text p q → Outcomes text

    shifted_go : (x start rest : List ℕ) → C x → N.read start ≡ wrong rest → Outcomes (x ++ start)
    shifted_go x start rest c e =
        let p = length x in
        let h = before start rest e in
        let m = length h.here in
        let k : length start ≡ m + length rest = ap length h.is ∙ length-append h.here rest in
        let z : length (x ++ start) - length rest ≡ p + m = omega (arith, k, length-append x start) in
        let u : take p (x ++ start) ≡ x = take-append_seam x start in
        let y : p + m - p ≡ m = omega arith in
        let v : take m start ≡ h.here = ap (take m) h.is ∙ take_at h.here rest m refl in
        shifted p (p + m)
        (ap (outcome (x ++ start)) ((n.calls x c).wrongs start rest (led start rest e) e) ∙ ap refused z)
        (late_refused t told x start (led start rest e) ((n.calls x c).late start rest (led start rest e) e))
        (record { next = next p m h.size; number = rw u c; digits = rw (y, drop_at x start p refl, v) h.digits })
      where
        next : (p m : ℕ) → (m ≡ 1) ⊎ (m ≡ 2) → (p + m ≡ p + 1) ⊎ (p + m ≡ p + 2)
        next p m (inl e) = inl (omega (arith, e))
        next p m (inr e) = inr (omega (arith, e))

    outcomes_go : (text : List ℕ) → Like N C (whole 1 f) (whole 1 t).read text → Outcomes text
    outcomes_go text (same e) = alike (ap (outcome text) e)
    outcomes_go text (moved x start rest c z h e) = rw z (shifted_go x start rest c e)

    outcomes : (text : List ℕ) → Outcomes text
    outcomes text = outcomes_go text (n.like text)

    -- a place in a number is told at its first byte
    module _ (text : List ℕ) (p q : ℕ) (w : FirstWrong f text q) (i : InNumber C text p q) where
      inside_go : (s : Bool) → ltb q (length text) ≡ s → q < length text
      inside_go true e = ltb-true q (length text) e
      inside_go false e =
          let k : length text ≤ q = ltb-false q (length text) e in
          let z : take q text ≡ take (q + 1) text = take_all q text k ∙ sym (take_all (q + 1) text (omega arith)) in
          absurd (w.never (rw z at w.begins))

      inside : q < length text
      inside = inside_go (ltb q (length text)) refl

      reach_go : (q ≡ p + 1) ⊎ (q ≡ p + 2) → (p < q) × (q ≤ p + 2)
      reach_go (inl e) = (omega arith, omega arith)
      reach_go (inr e) = (omega arith, omega arith)

      reach : (p < q) × (q ≤ p + 2)
      reach = reach_go i.next

      abbrev x : List ℕ
      x = take p text

      abbrev start : List ℕ
      start = drop p text

      x_size : length x ≡ p
      x_size = length-take-le p text (omega (arith, inside, reach.0))

      calls : Calls N (whole 1 f) (whole 1 t).read x
      calls = n.calls x i.number

      digit_led : Led start
      digit_led = begun start (q - p) (omega (arith, reach.0)) (omega (arith, length-drop p text, inside, reach.0)) i.digits

      whole_text : x ++ start ≡ text
      whole_text = take-append-drop p text

      at_p : (h : Format A) → Lawful 1 h → Late x start ((whole 1 h).read (x ++ start)) → reading 1 h text ≡ refused p
      at_p h m k = ap (reading 1 h) (sym whole_text) ∙ late_refused h m x start digit_led k ∙ ap refused x_size

      -- a beginning that goes on past q is against the place
      too_far : (y : List ℕ) (j : ℕ) → q < j → take j text ≡ y → Begins f y → reading 1 t text ≡ refused p
      too_far y j h e b = absurd (w.never (begins_less f text (q + 1) j (omega arith) (rw e b)))

      told_go : (s : Answer ℕ) → N.read start ≡ s → Says N start s → Fails 1 N start s → reading 1 t text ≡ refused p
      told_go (wrong rest) e s k = at_p t told (calls.late start rest (led start rest e) e)
      told_go other e s k =
          let z : p ≡ q = same_place (sym (at_p f l.lawful (calls.others start digit_led e)) ∙ ((by_bytes f l ready).wrong text q).1 w) in
          absurd (omega (arith, z, reach.0))
      told_go (value m rest) e s k =
          let y = N.write m in
          let j : length (x ++ y) ≡ p + 3 = length-append x y ∙ λ i. x_size i + three m s.1 i in
          let u : take (p + 3) text ≡ x ++ y =
          ap (take (p + 3)) (sym whole_text ∙ ap (λ u. x ++ u) s.0 ∙ sym (append_assoc x y rest)) ∙ take_at (x ++ y) rest (p + 3) j in
          too_far (x ++ y) (p + 3) (omega (arith, reach.1)) u (whole-begins (x ++ y) (calls.begins m s.1))
      told_go short e s k =
          let b = k.begins in
          let v : start ≡ k.front = k.is ∙ ap (λ u. k.front ++ u) (empty k.bit k.less) ∙ append-nil k.front in
          let g = whole-begins (x ++ N.write b.says) (calls.begins b.says b.valid) in
          too_far text (length text) inside (take_all (length text) text (omega arith))
          (record {
            says = g.says;
            valid = g.valid;
            more = b.more ++ g.more;
            is = g.is ∙ ap (λ u. (x ++ u) ++ g.more) (b.is ∙ ap (λ u. u ++ b.more) (sym v))
                ∙ ap (λ u. u ++ g.more) (sym (append_assoc x start b.more) ∙ ap (λ u. u ++ b.more) whole_text) ∙ append_assoc text b.more g.more;
          })

      told_there : reading 1 t text ≡ refused p
      told_there = told_go (N.read start) refl (E.lawful.says start) (E.fails start)

    places : (text : List ℕ) (p : ℕ) → (reading 1 f text ≡ refused p) ↔ FirstWrong f text p
    places = (by_bytes f l ready).wrong

    forth : (text : List ℕ) (p : ℕ) → reading 1 t text ≡ refused p → Outcomes text → Place f C text p
    forth text p e (alike z) =
        let w = (places text p).0 (sym z ∙ e) in
        stays w (λ s i. let y : s ≡ p = same_place (sym (told_there text s p w i) ∙ e) in omega (arith, y, (reach text s p w i).0))
    forth text p e (shifted s q a b i) = let y : s ≡ p = same_place (sym b ∙ e) in moves q ((places text q).0 a) (rw y at i)

    back : (text : List ℕ) (p : ℕ) → Place f C text p → Outcomes text → reading 1 t text ≡ refused p
    back text p (stays w none) (alike z) = z ∙ (places text p).1 w
    back text p (stays w none) (shifted s q a b i) = let y : q ≡ p = same_place (sym a ∙ (places text p).1 w) in absurd (none s (rw y at i))
    back text p (moves q w i) o = told_there text p q w i

    short_forth : (text : List ℕ) → reading 1 t text ≡ ends_short → Outcomes text → reading 1 f text ≡ ends_short
    short_forth text e (alike z) = sym z ∙ e
    short_forth text e (shifted p q a b i) = refused_short (sym b ∙ e)

    short_back : (text : List ℕ) → reading 1 f text ≡ ends_short → Outcomes text → reading 1 t text ≡ ends_short
    short_back text e (alike z) = z ∙ e
    short_back text e (shifted p q a b i) = refused_short (sym a ∙ e)

    -- what can be said and how it is written are the same
    to : (y : List ℕ) → Begins f y → Begins t y
    to y b = record { says = b.says; valid = sound b.says b.valid; more = b.more; is = writes b.says ∙ b.is }

    fro : (y : List ℕ) → Begins t y → Begins f y
    fro y b = record { says = b.says; valid = good b.says b.valid; more = b.more; is = sym (writes b.says) ∙ b.is }

    formed_to : (y : List ℕ) → Formed f y → Formed t y
    formed_to y k = record { says = k.says; valid = sound k.says k.valid; is = k.is ∙ sym (writes k.says) }

    formed_fro : (y : List ℕ) → Formed t y → Formed f y
    formed_fro y k = record { says = k.says; valid = good k.says k.valid; is = k.is ∙ writes k.says }

    first_to : (text : List ℕ) (q : ℕ) → FirstWrong f text q → FirstWrong t text q
    first_to text q w = record { begins = to (take q text) w.begins; never = λ b. w.never (fro (take (q + 1) text) b) }

    first_fro : (text : List ℕ) (q : ℕ) → FirstWrong t text q → FirstWrong f text q
    first_fro text q w = record { begins = fro (take q text) w.begins; never = λ b. w.never (to (take (q + 1) text) b) }

    place_to : (text : List ℕ) (p : ℕ) → Place f C text p → Place t C text p
    place_to text p (stays w none) = stays (first_to text p w) none
    place_to text p (moves q w i) = moves q (first_to text q w) i

    place_fro : (text : List ℕ) (p : ℕ) → Place t C text p → Place f C text p
    place_fro text p (stays w none) = stays (first_fro text p w) none
    place_fro text p (moves q w i) = moves q (first_fro text q w) i

    pub by_numbers : ByNumbers N t C
    by_numbers = record {
      stands = λ x c k ok. to (x ++ N.write k) ((s.calls x c).begins k ok);
      wrong = λ text p. (λ e. place_to text p (forth text p e (outcomes text)), λ k. back text p (place_fro text p k) (outcomes text));
      short = λ text. (
        λ e. let s = ((by_bytes f l ready).short text).0 (short_forth text e (outcomes text)) in (to text s.0, λ k. s.1 (formed_fro text k)),
        λ k. short_back text (((by_bytes f l ready).short text).1 (fro text k.0, λ m. k.1 (formed_to text m))) (outcomes text),
      );
    }
