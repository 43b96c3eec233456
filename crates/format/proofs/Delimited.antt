-- Delimited formats: lawful formats that anything may follow, and that an empty text cuts short.
use Prim.Native.Nat.{ℕ, ◌+◌, ◌≤◌, ◌<◌}
use mathlib.Core.List.{List, [], ◌∷◌, ◌++◌}
use mathlib.Core.Path.{◌≡◌, refl, sym, ap, ◌∙◌}
use mathlib.Core.Bool.{Bool, true, false}
use mathlib.Core.Logic.{◌⊎◌, inl, inr}
use mathlib.Core.Option.{none, some}
use lib.Dec.{ltb}
use lib.ListN.{length, take, drop, length-append}
use native.Mathlib.Omega.{arith}
use Rattle.format.specs.Format.{Answer, value, other, wrong, short, Format, choose, first, second, unit, sequence, mapped, maybe, optional, either, or_else, at_start, atomic}
use Rattle.format.proofs.Lawful.{Lawful, Says}
use Rattle.format.proofs.Sequence.{sequence_lawful}
use Rattle.format.proofs.Parts.{Inverse, mapped_lawful, either_lawful}
use Rattle.format.proofs.Exact.{Exact}
use Rattle.format.proofs.ExactParts.{sequence_exact, mapped_exact, either_exact}

-- what is wrong is not the first unit: that would be another format's
abbrev pub Firm : {A : Type 0} → Format A → Type 0
Firm f = (text rest : List ℕ) → f.read text ≡ wrong rest → length rest < length text

pub record Delimited (w : ℕ) {A : Type 0} (f : Format A) : Type 0 where
  pub lawful : Lawful w f
  pub free : (v : A) (rest : List ℕ) → f.Valid v → f.Follow v rest
  pub empty : f.read [] ≡ short
  pub firm : Firm f

pub short_value : {A : Type 0} {X : Type 0} {v : A} {s : List ℕ} → short ≡ value v s → X
short_value e = absurd (let z : ◌≡◌ {A = ℕ} 0 1 = cc in omega arith)

pub value_wrong : {A : Type 0} {X : Type 0} {v : A} {r s : List ℕ} → value v s ≡ wrong r → X
value_wrong e = absurd (let z : ◌≡◌ {A = ℕ} 0 1 = cc in omega arith)

pub other_wrong : {A : Type 0} {X : Type 0} {r : List ℕ} → ◌≡◌ {A = Answer A} other (wrong r) → X
other_wrong e = absurd (let z : ◌≡◌ {A = ℕ} 0 1 = cc in omega arith)

pub short_wrong : {A : Type 0} {X : Type 0} {r : List ℕ} → ◌≡◌ {A = Answer A} short (wrong r) → X
short_wrong e = absurd (let z : ◌≡◌ {A = ℕ} 0 1 = cc in omega arith)

pub same_rest : {A : Type 0} {r s : List ℕ} → ◌≡◌ {A = Answer A} (wrong r) (wrong s) → r ≡ s
same_rest e = cc

solid_go : {A : Type 0} (w : ℕ) (f : Format A) → Delimited w f → (v : A) → f.Valid v → (u : List ℕ) → f.write v ≡ u → 1 ≤ length u
solid_go w f t v ok [] e =
    short_value (sym t.empty ∙ ap (λ k. f.read (k ++ [])) (sym e) ∙ t.lawful.reads v [] ok (t.free v [] ok))
solid_go w f t v ok (b ∷ u) e = omega arith

-- a token has a unit at least
pub solid : {A : Type 0} (w : ℕ) (f : Format A) → Delimited w f → (v : A) → f.Valid v → 1 ≤ length (f.write v)
solid w f t v ok = solid_go w f t v ok (f.write v) refl

pub second_firm : {B C : Type 0} (c : B → C) (text rest : List ℕ) (r : Answer B) → ((left : List ℕ) → r ≡ wrong left → length left < length text)
    → second c text r ≡ wrong rest → length rest ≤ length text
second_firm c text rest (value b left) firm e = value_wrong e
second_firm c text rest other firm e = let z : text ≡ rest = same_rest e in omega (arith, ap length z)
second_firm c text rest (wrong left) firm e = let z : left ≡ rest = same_rest e in omega (arith, ap length z, firm left refl)
second_firm c text rest short firm e = short_wrong e

module _ {A B : Type 0} (w : ℕ) (f : Format A) (g : A → Format B) (l : Lawful w f) (some-unit : (a : A) → f.Valid a → 1 ≤ length (f.write a))
    (firm : Firm f) (next : (a : A) → f.Valid a → Firm (g a)) where
  firm_go : (text rest : List ℕ) (r : Answer A) → f.read text ≡ r → Says f text r
      → ◌≡◌ {A = Answer (A × B)} (first r λ a rest. second (λ b. (a, b)) rest ((g a).read rest)) (wrong rest) → length rest < length text
  firm_go text rest (value a left) q s e =
      omega (arith, second_firm (λ b. (a, b)) left rest ((g a).read left) (next a s.1 left) e, ap length s.0, length-append (f.write a) left, some-unit a s.1)
  firm_go text rest other q s e = other_wrong e
  firm_go text rest (wrong left) q s e = let z : left ≡ rest = same_rest e in omega (arith, ap length z, firm text left q)
  firm_go text rest short q s e = short_wrong e

  pub sequence_firm : Firm (sequence f g)
  sequence_firm text rest e = firm_go text rest (f.read text) refl (l.says text) e

maybe_wrong : {A : Type 0} (text rest : List ℕ) (r : Answer A) → maybe none text r (λ a left. value (some a) left) ≡ wrong rest → r ≡ wrong rest
maybe_wrong text rest (value a left) e = value_wrong e
maybe_wrong text rest other e = value_wrong e
maybe_wrong text rest (wrong left) e = ap wrong (same_rest e)
maybe_wrong [] rest short e = value_wrong e
maybe_wrong (b ∷ text) rest short e = short_wrong e

pub optional_firm : {A : Type 0} (f : Format A) → Firm f → Firm (optional f)
optional_firm f firm text rest e = firm text rest (maybe_wrong text rest (f.read text) e)

pub sequence_delimited : {A B : Type 0} (w : ℕ) (f : Format A) (g : A → Format B) → Delimited w f → ((a : A) → f.Valid a → Delimited w (g a)) → Delimited w (sequence f g)
sequence_delimited w f g t s = record {
  lawful = sequence_lawful w f g t.lawful (λ a ok. (s a ok).lawful);
  free = λ v rest ok. ((s v.0 ok.0).free v.1 rest ok.1, t.free v.0 ((g v.0).write v.1 ++ rest) ok.0);
  empty = ap (λ r. first r λ a rest. second (λ b. (a, b)) rest ((g a).read rest)) t.empty;
  firm = sequence_firm w f g t.lawful (solid w f t) t.firm λ a ok. (s a ok).firm;
}

pub mapped_wrong : {A B : Type 0} (to : A → B) (rest : List ℕ) (r : Answer A) → first r (λ a left. value (to a) left) ≡ wrong rest → r ≡ wrong rest
mapped_wrong to rest (value a left) e = value_wrong e
mapped_wrong to rest other e = other_wrong e
mapped_wrong to rest (wrong left) e = ap wrong (same_rest e)
mapped_wrong to rest short e = short_wrong e

pub mapped_delimited : {A B : Type 0} (w : ℕ) (f : Format A) (to : A → B) (from : B → A) (P : B → Type 0) → Delimited w f → Inverse f to from P
    → Delimited w (mapped f to from P)
mapped_delimited w f to from P t i = record {
  lawful = mapped_lawful w f to from P t.lawful i;
  free = λ v rest ok. t.free (from v) rest (i.sound v ok);
  empty = ap (λ r. first r λ a rest. value (to a) rest) t.empty;
  firm = λ text rest e. t.firm text rest (mapped_wrong to rest (f.read text) e);
}

-- what is told at its first unit is never wrong further on
module _ {A : Type 0} (w : ℕ) (f : Format A) (d : Delimited w f) where
  start_says : (text : List ℕ) (r : Answer A) → Says f text r → Says (atomic f) text (at_start r)
  start_says text (value v rest) s = s
  start_says text other s = tt
  start_says text (wrong rest) s = tt
  start_says text short s = tt

  start_firm : (text rest : List ℕ) (r : Answer A) → at_start r ≡ wrong rest → length rest < length text
  start_firm text rest (value v left) e = value_wrong e
  start_firm text rest other e = other_wrong e
  start_firm text rest (wrong left) e = other_wrong e
  start_firm text rest short e = short_wrong e

  pub atomic_delimited : Delimited w (atomic f)
  atomic_delimited = record {
    lawful = record {
      whole = d.lawful.whole;
      reads = λ v rest ok p. ap at_start (d.lawful.reads v rest ok p);
      says = λ text. start_says text (f.read text) (d.lawful.says text);
    };
    free = d.free;
    empty = ap at_start d.empty;
    firm = λ text rest e. start_firm text rest (f.read text) e;
  }

unit_go : (v : ℕ) (rest left : List ℕ) (p q r : Bool) → choose p short (choose q other (choose r other (value v left))) ≡ wrong rest → ⊥
unit_go v rest left true q r e = short_wrong e
unit_go v rest left false true r e = other_wrong e
unit_go v rest left false false true e = other_wrong e
unit_go v rest left false false false e = value_wrong e

-- one unit is never wrong further on
pub unit_alone : (w : ℕ) (of : List ℕ → ℕ) (to : ℕ → List ℕ) (lo hi : ℕ) (text rest : List ℕ) → (unit w of to lo hi).read text ≡ wrong rest → ⊥
unit_alone w of to lo hi text rest e =
    unit_go (of (take w text)) rest (drop w text) (ltb (length text) w) (ltb (of (take w text)) lo) (ltb hi (of (take w text))) e

pub unit_firm : (w : ℕ) (of : List ℕ → ℕ) (to : ℕ → List ℕ) (lo hi : ℕ) → Firm (unit w of to lo hi)
unit_firm w of to lo hi text rest e = absurd (unit_alone w of to lo hi text rest e)

either_firm : {A B : Type 0} (f : Format A) (g : Format B) → Firm f → Firm g → (text rest : List ℕ)
    → (r : Answer A) (q : Answer B) → f.read text ≡ r → g.read text ≡ q → or_else r q ≡ wrong rest → length rest < length text
either_firm f g h k text rest (value a left) q x y e = value_wrong e
either_firm f g h k text rest other (value b left) x y e = value_wrong e
either_firm f g h k text rest other other x y e = other_wrong e
either_firm f g h k text rest other (wrong left) x y e = k text rest (y ∙ ap wrong (same_rest e))
either_firm f g h k text rest other short x y e = short_wrong e
either_firm f g h k text rest (wrong left) q x y e = h text rest (x ∙ ap wrong (same_rest e))
either_firm f g h k text rest short q x y e = short_wrong e

pub either_delimited : {A B : Type 0} (w : ℕ) (f : Format A) (g : Format B) → Delimited w f → Delimited w g
    → ((b : B) (rest : List ℕ) → g.Valid b → f.read (g.write b ++ rest) ≡ other) → Delimited w (either f g)
either_delimited {A = A} {B = B} w f g t s apart = record {
  lawful = either_lawful w f g t.lawful s.lawful;
  free = free;
  empty = ap (λ r. or_else r (g.read [])) t.empty;
  firm = λ text rest e. either_firm f g t.firm s.firm text rest (f.read text) (g.read text) refl refl e;
}
  where
    free : (v : A ⊎ B) (rest : List ℕ) → (either f g).Valid v → (either f g).Follow v rest
    free (inl a) rest ok = t.free a rest ok
    free (inr b) rest ok = (apart b rest ok, s.free b rest ok)

-- a delimited format that is exact
pub record Strict (w : ℕ) {A : Type 0} (f : Format A) : Type 0 where
  pub delimited : Delimited w f
  pub exact : Exact w f

pub sequence_strict : {A B : Type 0} (w : ℕ) (f : Format A) (g : A → Format B) → Strict w f → ((a : A) → f.Valid a → Strict w (g a)) → Strict w (sequence f g)
sequence_strict w f g t s = record {
  delimited = sequence_delimited w f g t.delimited λ a ok. (s a ok).delimited;
  exact = sequence_exact w f g t.exact λ a ok. (s a ok).exact;
}

pub mapped_strict : {A B : Type 0} (w : ℕ) (f : Format A) (to : A → B) (from : B → A) (P : B → Type 0) → Strict w f → Inverse f to from P
    → Strict w (mapped f to from P)
mapped_strict w f to from P t i = record {
  delimited = mapped_delimited w f to from P t.delimited i;
  exact = mapped_exact w f to from P t.exact i;
}

pub either_strict : {A B : Type 0} (w : ℕ) (f : Format A) (g : Format B) → Strict w f → Strict w g
    → ((b : B) (rest : List ℕ) → g.Valid b → f.read (g.write b ++ rest) ≡ other) → Strict w (either f g)
either_strict w f g t s apart = record {
  delimited = either_delimited w f g t.delimited s.delimited apart;
  exact = either_exact w f g t.exact s.exact;
}

-- a delimited format of which every value takes n bytes
pub record Fixed (w n : ℕ) {A : Type 0} (f : Format A) : Type 0 where
  pub delimited : Delimited w f
  pub size : (v : A) → f.Valid v → length (f.write v) ≡ n

pub sequence_fixed : {A B : Type 0} (w n m : ℕ) (f : Format A) (g : A → Format B) → Fixed w n f → ((a : A) → f.Valid a → Fixed w m (g a)) → Fixed w (n + m) (sequence f g)
sequence_fixed w n m f g t s = record {
  delimited = sequence_delimited w f g t.delimited λ a ok. (s a ok).delimited;
  size = λ v ok.
      length-append (f.write v.0) ((g v.0).write v.1)
      ∙ (λ i. t.size v.0 ok.0 i + (s v.0 ok.0).size v.1 ok.1 i);
}
