-- Sequences, other values, an optional part, a choice, the end of the text: exact where their parts are.
use Prim.Native.Nat.{ℕ, ◌≤◌}
use mathlib.Core.List.{List, [], ◌∷◌, ◌++◌, append_assoc, append-nil}
use mathlib.Core.Path.{◌≡◌, refl, sym, ap, ◌∙◌}
use mathlib.Core.Bool.{Bool, true, false}
use mathlib.Core.Logic.{◌⊎◌, inl, inr}
use mathlib.Core.Option.{Option, none, some}
use lib.Dec.{ltb}
use lib.ListN.{length, drop, take, length-append, take-append-drop}
use lib.Seq.{length-take-le}
use native.Mathlib.Omega.{arith}
use borrow.Author.Tests.{ltb-true, ltb-false, le-ltb}
use Rattle.format.specs.Format.{Answer, value, other, wrong, short, Format, choose, first, second, sequence, mapped, maybe, optional, either, or_else, end, end_read}
use Rattle.format.specs.Places.{Begins}
use Rattle.format.proofs.Lawful.{Says}
use Rattle.format.proofs.Sequence.{sequence_on, sequence_lawful}
use Rattle.format.proofs.Parts.{Inverse, mapped_lawful, optional_lawful, either_lawful, end_lawful, whole_nil}
use Rattle.format.proofs.Exact.{Exact, Fails, first_strange, first_bad_lem, first_cut, other_stays, absent_keeps, second_fails}

module _ {A B : Type 0} (w : ℕ) (f : Format A) (g : A → Format B) (l : Exact w f) (m : (a : A) → f.Valid a → Exact w (g a)) where
  abbrev h : Format (A × B)
  h = sequence f g

  abbrev both : Answer A → Answer (A × B)
  both r = first r λ a rest. second (λ b. (a, b)) rest ((g a).read rest)

  extends : (a : A) → f.Valid a → Begins h (f.write a)
  extends a ok =
      let b = (m a ok).some in
      record { says = (a, b.says); valid = (ok, b.valid); more = (g a).write b.says; is = refl }

  fails_go : (text : List ℕ) (r : Answer A) → Says f text r → Fails w f text r → Fails w h text (both r)
  fails_go text (value a rest) v s =
      rw v.0
      (second_fails w f (g a) h l a v.1 (λ b. (a, b)) (λ b. refl) (λ b k. (v.1, k))
      (λ y p. sequence_on w f g l.lawful a y v.1 p) (m a v.1).some rest v.2 ((g a).read rest) ((m a v.1).fails rest))
  fails_go text other v s = first_strange w f h (λ x e. ap both e) text s
  fails_go text (wrong rest) v s = first_bad_lem w f h extends (λ x y e. ap both e) text rest s
  fails_go text short v s = first_cut w f h extends text s

  pub sequence_exact : Exact w (sequence f g)
  sequence_exact = record {
    lawful = sequence_lawful w f g l.lawful λ a ok. (m a ok).lawful;
    wide = l.wide;
    some =
        let a = l.some in
        let b = (m a.says a.valid).some in
        record { says = (a.says, b.says); valid = (a.valid, b.valid); more = f.write a.says ++ (g a.says).write b.says; is = refl };
    keeps = λ v x t u ok k p.
        let y = (g v.0).write v.1 in (
          (m v.0 ok.0).keeps v.1 x t u ok.1 k p.0,
          rw (append_assoc y x u) at
              (l.keeps v.0 (y ++ x) t u ok.0 (omega (arith, k, length-append y x)) (rw (← append_assoc y x t) at p.1)),
        );
    fails = λ text. fails_go text (f.read text) (l.lawful.says text) (l.fails text);
  }

module _ {A B : Type 0} (w : ℕ) (f : Format A) (to : A → B) (from : B → A) (P : B → Type 0) (l : Exact w f) (i : Inverse f to from P) where
  abbrev mh : Format B
  mh = mapped f to from P

  abbrev mk : Answer A → Answer B
  mk r = first r λ a rest. value (to a) rest

  m_extends : (a : A) → f.Valid a → Begins mh (f.write a)
  m_extends a ok = record { says = to a; valid = i.good a ok; more = []; is = ap f.write (i.back a ok) ∙ sym (append-nil (f.write a)) }

  m_fails : (text : List ℕ) (r : Answer A) → Fails w f text r → Fails w mh text (mk r)
  m_fails text (value a rest) s = tt
  m_fails text other s = first_strange w f mh (λ x e. ap mk e) text s
  m_fails text (wrong rest) s = first_bad_lem w f mh m_extends (λ x y e. ap mk e) text rest s
  m_fails text short s = first_cut w f mh m_extends text s

  pub mapped_exact : Exact w (mapped f to from P)
  mapped_exact = record {
    lawful = mapped_lawful w f to from P l.lawful i;
    wide = l.wide;
    some = let a = l.some in record { says = to a.says; valid = i.good a.says a.valid; more = f.write (from (to a.says)); is = refl };
    keeps = λ v x t u ok k p. l.keeps (from v) x t u (i.sound v ok) k p;
    fails = λ text. m_fails text (f.read text) (l.fails text);
  }

module _ {A : Type 0} (w : ℕ) (f : Format A) (l : Exact w f) where
  abbrev oh : Format (Option A)
  oh = optional f

  abbrev ok_on : List ℕ → Answer A → Answer (Option A)
  ok_on text r = maybe none text r λ a rest. value (some a) rest

  o_extends : (a : A) → f.Valid a → Begins oh (f.write a)
  o_extends a ok = record { says = some a; valid = ok; more = []; is = sym (append-nil (f.write a)) }

  o_fails : (text : List ℕ) (r : Answer A) → Fails w f text r → Fails w oh text (ok_on text r)
  o_fails text (value a rest) s = tt
  o_fails text other s = tt
  o_fails text (wrong rest) s = first_bad_lem w f oh o_extends (λ x y q. ap (ok_on x) q) text rest s
  o_fails [] short s = tt
  o_fails (b ∷ text) short s = first_cut w f oh o_extends (b ∷ text) s

  o_keeps : (v : Option A) (x t u : List ℕ) → oh.Valid v → w ≤ length x → oh.Follow v (x ++ t) → oh.Follow v (x ++ u)
  o_keeps none x t u ok k p = absent_keeps w f l x t u k p
  o_keeps (some a) x t u ok k p = l.keeps a x t u ok k p

  pub optional_exact : Exact w (optional f)
  optional_exact = record {
    lawful = optional_lawful w f l.lawful;
    wide = l.wide;
    some = record { says = none; valid = tt; more = []; is = refl };
    keeps = o_keeps;
    fails = λ text. o_fails text (f.read text) (l.fails text);
  }

module _ {A B : Type 0} (w : ℕ) (f : Format A) (g : Format B) (l : Exact w f) (m : Exact w g) where
  abbrev eh : Format (A ⊎ B)
  eh = either f g

  e_extends : (a : A) → f.Valid a → Begins eh (f.write a)
  e_extends a ok = record { says = inl a; valid = ok; more = []; is = sym (append-nil (f.write a)) }

  e_extends_g : (b : B) → g.Valid b → Begins eh (g.write b)
  e_extends_g b ok = record { says = inr b; valid = ok; more = []; is = sym (append-nil (g.write b)) }

  -- the first unit of a text decides for the second
  e_same : (x : List ℕ) (r : Answer B) → f.read x ≡ other → g.read x ≡ r → eh.read x ≡ or_else other r
  e_same x r p q = ap (λ k. or_else k (g.read x)) p ∙ ap (or_else other) q

  e_other : (text : List ℕ) (r : Answer B) → f.read text ≡ other → Fails w g text r → Fails w eh text (or_else other r)
  e_other text (value b rest) e s = tt
  e_other text other e s = record {
    here = s.here;
    tail = s.tail;
    is = s.is;
    long = s.long;
    stays = λ t. e_same (s.here ++ t) other (other_stays w f l s.here s.tail t (omega (arith, s.long)) (ap f.read (sym s.is) ∙ e)) (s.stays t);
  }
  e_other text (wrong rest) e s =
      let z : text ≡ (s.front ++ s.here) ++ s.tail = s.splits ∙ ap (λ k. s.front ++ k) s.is ∙ sym (append_assoc s.front s.here s.tail) in
      record {
        front = s.front;
        here = s.here;
        tail = s.tail;
        splits = s.splits;
        is = s.is;
        long = s.long;
        whole = s.whole;
        begins = let b = s.begins in record { says = inr b.says; valid = b.valid; more = b.more; is = b.is };
        stays = λ t.
            e_same (s.front ++ (s.here ++ t)) (wrong (s.here ++ t))
            (ap f.read (sym (append_assoc s.front s.here t))
            ∙ other_stays w f l (s.front ++ s.here) s.tail t (omega (arith, s.long, length-append s.front s.here)) (ap f.read (sym z) ∙ e))
            (s.stays t);
      }
  e_other text short e s = first_cut w g eh e_extends_g text s

  e_fails : (text : List ℕ) (r : Answer A) → f.read text ≡ r → Fails w f text r → Fails w eh text (or_else r (g.read text))
  e_fails text (value a rest) e s = tt
  e_fails text other e s = e_other text (g.read text) e (m.fails text)
  e_fails text (wrong rest) e s = first_bad_lem w f eh e_extends (λ x y q. ap (λ r. or_else r (g.read x)) q) text rest s
  e_fails text short e s = first_cut w f eh e_extends text s

  e_keeps : (v : A ⊎ B) (x t u : List ℕ) → eh.Valid v → w ≤ length x → eh.Follow v (x ++ t) → eh.Follow v (x ++ u)
  e_keeps (inl a) x t u ok k p = l.keeps a x t u ok k p
  e_keeps (inr b) x t u ok k p =
      let y = g.write b in (
        ap f.read (sym (append_assoc y x u)) ∙ other_stays w f l (y ++ x) t u (omega (arith, k, length-append y x)) (ap f.read (append_assoc y x t) ∙ p.0),
        m.keeps b x t u ok k p.1,
      )

  pub either_exact : Exact w (either f g)
  either_exact = record {
    lawful = either_lawful w f g l.lawful m.lawful;
    wide = l.wide;
    some = let a = l.some in record { says = inl a.says; valid = a.valid; more = a.more; is = a.is };
    keeps = e_keeps;
    fails = λ text. e_fails text (f.read text) refl (l.fails text);
  }

cons_nil : {X : Type 0} (x t : List ℕ) → 1 ≤ length x → x ++ t ≡ [] → X
cons_nil x t k e = absurd (omega (arith, length-append x t, ap length e))

end_left : (w : ℕ) → 1 ≤ w → (b : ℕ) (text : List ℕ) (t : Bool) → ltb (length (b ∷ text)) w ≡ t → Fails w (end w) (b ∷ text) (choose t short other)
end_left w k b text true e = record {
  front = [];
  bit = b ∷ text;
  is = refl;
  less = ltb-true (length (b ∷ text)) w e;
  whole = whole_nil w;
  begins = record { says = tt; valid = tt; more = []; is = refl };
}
end_left w k b text false e = record {
  here = take w (b ∷ text);
  tail = drop w (b ∷ text);
  is = sym (take-append-drop w (b ∷ text));
  long = length-take-le w (b ∷ text) (ltb-false (length (b ∷ text)) w e);
  stays = λ t. end_other w k (take w (b ∷ text)) t (length-take-le w (b ∷ text) (ltb-false (length (b ∷ text)) w e));
}
  where
    end_other : (w : ℕ) → 1 ≤ w → (x t : List ℕ) → length x ≡ w → end_read w (x ++ t) ≡ other
    end_other w k [] t e = absurd (omega (arith, k, e))
    end_other w k (b ∷ x) t e = rw (le-ltb (length (b ∷ (x ++ t))) w (omega (arith, e, length-append x t)))

end_fails : (w : ℕ) → 1 ≤ w → (text : List ℕ) → Fails w (end w) text (end_read w text)
end_fails w k [] = tt
end_fails w k (b ∷ text) = end_left w k b text (ltb (length (b ∷ text)) w) refl

pub end_exact : (w : ℕ) → 1 ≤ w → Exact w (end w)
end_exact w k = record {
  lawful = end_lawful w;
  wide = k;
  some = record { says = tt; valid = tt; more = []; is = refl };
  keeps = λ v x t u ok j p. cons_nil x t (omega (arith, k, j)) p;
  fails = end_fails w k;
}
