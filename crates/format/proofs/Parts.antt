-- Other values, an optional part, a choice, the end of the text: lawful where their parts are.
use Prim.Native.Nat.{ℕ}
use mathlib.Core.List.{List, [], ◌∷◌, ◌++◌}
use mathlib.Core.Path.{◌≡◌, refl, sym, ap, ◌∙◌}
use mathlib.Core.Bool.{Bool, true, false}
use mathlib.Core.Logic.{◌⊎◌, inl, inr}
use mathlib.Core.Option.{Option, none, some}
use lib.Dec.{ltb}
use lib.ListN.{length}
use native.Mathlib.Omega.{arith}
use Rattle.format.specs.Format.{Answer, value, other, wrong, short, Format, choose, first, mapped, maybe, optional, either, or_else, end, end_read}
use Rattle.format.specs.Places.{Whole}
use Rattle.format.proofs.Lawful.{Says, Lawful}
use Rattle.format.proofs.Begun.{absent_reads}

-- to and from are inverse between the values of f and those with P
pub record Inverse {A B : Type 0} (f : Format A) (to : A → B) (from : B → A) (P : B → Type 0) : Type 0 where
  pub good : (a : A) → f.Valid a → P (to a)
  pub back : (a : A) → f.Valid a → from (to a) ≡ a
  pub sound : (b : B) → P b → f.Valid (from b)
  pub forth : (b : B) → P b → to (from b) ≡ b

module _ {A B : Type 0} (w : ℕ) (f : Format A) (to : A → B) (from : B → A) (P : B → Type 0) (l : Lawful w f) (i : Inverse f to from P) where
  abbrev mk : Answer A → Answer B
  mk r = first r λ a rest. value (to a) rest

  m_says : (text : List ℕ) (r : Answer A) → Says f text r → Says (mapped f to from P) text (mk r)
  m_says text (value a rest) s =
      let e = i.back a s.1 in
      let q : f.Follow (from (to a)) rest = rw e s.2 in
      (s.0 ∙ ap (λ k. f.write k ++ rest) (sym e), i.good a s.1, q)
  m_says text other s = tt
  m_says text (wrong rest) s = tt
  m_says text short s = tt

  pub mapped_lawful : Lawful w (mapped f to from P)
  mapped_lawful = record {
    whole = λ v ok. l.whole (from v) (i.sound v ok);
    reads = λ v rest ok p. ap mk (l.reads (from v) rest (i.sound v ok) p) ∙ ap (λ b. value b rest) (i.forth v ok);
    says = λ text. m_says text (f.read text) (l.says text);
  }

pub mapped_other : {A B : Type 0} (f : Format A) (to : A → B) (from : B → A) (P : B → Type 0) (text : List ℕ) → f.read text ≡ other → (mapped f to from P).read text ≡ other
mapped_other f to from P text e = ap (λ r. first r λ a rest. value (to a) rest) e

pub whole_nil : (w : ℕ) → Whole w []
whole_nil w = (0, omega arith)

module _ {A : Type 0} (w : ℕ) (f : Format A) (l : Lawful w f) where
  abbrev oh : Format (Option A)
  oh = optional f

  abbrev ok_on : List ℕ → Answer A → Answer (Option A)
  ok_on text r = maybe none text r λ a rest. value (some a) rest

  o_says : (text : List ℕ) (r : Answer A) → f.read text ≡ r → Says f text r → Says oh text (ok_on text r)
  o_says text (value a rest) e s = s
  o_says text other e s = (refl, tt, rw e tt)
  o_says text (wrong rest) e s = tt
  o_says [] short e s = (refl, tt, rw e tt)
  o_says (b ∷ text) short e s = tt

  o_whole : (v : Option A) → oh.Valid v → Whole w (oh.write v)
  o_whole none ok = whole_nil w
  o_whole (some a) ok = l.whole a ok

  o_reads : (v : Option A) (rest : List ℕ) → oh.Valid v → oh.Follow v rest → oh.read (oh.write v ++ rest) ≡ value v rest
  o_reads none rest ok p = absent_reads none rest (f.read rest) (λ a left. value (some a) left) p
  o_reads (some a) rest ok p = ap (ok_on (f.write a ++ rest)) (l.reads a rest ok p)

  pub optional_lawful : Lawful w (optional f)
  optional_lawful = record { whole = o_whole; reads = o_reads; says = λ text. o_says text (f.read text) refl (l.says text) }

module _ {A B : Type 0} (w : ℕ) (f : Format A) (g : Format B) (l : Lawful w f) (m : Lawful w g) where
  abbrev eh : Format (A ⊎ B)
  eh = either f g

  e_other : (text : List ℕ) (r : Answer B) → f.read text ≡ other → Says g text r → Says eh text (or_else other r)
  e_other text (value b rest) e s = (s.0, s.1, (ap f.read (sym s.0) ∙ e, s.2))
  e_other text other e s = tt
  e_other text (wrong rest) e s = tt
  e_other text short e s = tt

  e_says : (text : List ℕ) (r : Answer A) → f.read text ≡ r → Says f text r → Says eh text (or_else r (g.read text))
  e_says text (value a rest) e s = s
  e_says text other e s = e_other text (g.read text) e (m.says text)
  e_says text (wrong rest) e s = tt
  e_says text short e s = tt

  e_whole : (v : A ⊎ B) → eh.Valid v → Whole w (eh.write v)
  e_whole (inl a) ok = l.whole a ok
  e_whole (inr b) ok = m.whole b ok

  e_reads : (v : A ⊎ B) (rest : List ℕ) → eh.Valid v → eh.Follow v rest → eh.read (eh.write v ++ rest) ≡ value v rest
  e_reads (inl a) rest ok p = ap (λ r. or_else r (g.read (f.write a ++ rest))) (l.reads a rest ok p)
  e_reads (inr b) rest ok p = ap (λ r. or_else r (g.read (g.write b ++ rest))) p.0 ∙ ap (or_else other) (m.reads b rest ok p.1)

  pub either_lawful : Lawful w (either f g)
  either_lawful = record { whole = e_whole; reads = e_reads; says = λ text. e_says text (f.read text) refl (l.says text) }

end_left : (w : ℕ) (text : List ℕ) (t : Bool) → Says (end w) text (choose t short other)
end_left w text true = tt
end_left w text false = tt

end_says : (w : ℕ) (text : List ℕ) → Says (end w) text (end_read w text)
end_says w [] = (refl, tt, refl)
end_says w (b ∷ text) = end_left w (b ∷ text) (ltb (length (b ∷ text)) w)

pub end_lawful : (w : ℕ) → Lawful w (end w)
end_lawful w = record { whole = λ v ok. whole_nil w; reads = λ v rest ok p. rw p; says = end_says w }
