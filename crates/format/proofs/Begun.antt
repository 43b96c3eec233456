-- Where a format has begun, so that no other format's unit stands there, and where it is absent.
use Prim.Native.Nat.{ℕ}
use mathlib.Core.List.{List, [], ◌∷◌}
use mathlib.Core.Path.{◌≡◌, refl, sym, ap, ◌∙◌}
use native.Mathlib.Omega.{arith}
use Rattle.format.specs.Format.{Answer, value, other, wrong, short, Format, first, second, sequence, mapped, maybe, Absent}

pub value_other : {A X : Type 0} {v : A} {r : List ℕ} → value v r ≡ other → X
value_other e = absurd (let z : ◌≡◌ {A = ℕ} 0 1 = cc in omega arith)

wrong_other : {A X : Type 0} {r : List ℕ} → ◌≡◌ {A = Answer A} (wrong r) other → X
wrong_other e = absurd (let z : ◌≡◌ {A = ℕ} 0 1 = cc in omega arith)

short_other : {A X : Type 0} → ◌≡◌ {A = Answer A} short other → X
short_other e = absurd (let z : ◌≡◌ {A = ℕ} 0 1 = cc in omega arith)

-- what has begun is no other format's
second_never : {B C : Type 0} (c : B → C) (rest : List ℕ) (r : Answer B) → second c rest r ≡ other → ⊥
second_never c rest (value b left) e = value_other e
second_never c rest other e = wrong_other e
second_never c rest (wrong left) e = wrong_other e
second_never c rest short e = short_other e

mapped_never : {A B : Type 0} (to : A → B) (r : Answer A) → (r ≡ other → ⊥) → first r (λ a rest. value (to a) rest) ≡ other → ⊥
mapped_never to (value a rest) n e = value_other e
mapped_never to other n e = n refl
mapped_never to (wrong rest) n e = wrong_other e
mapped_never to short n e = short_other e

pub sequence_begun : {A B : Type 0} (f : Format A) (g : A → Format B) (text : List ℕ) (a : A) (rest : List ℕ) → f.read text ≡ value a rest → (sequence f g).read text ≡ other → ⊥
sequence_begun f g text a rest e o =
    second_never (λ b. (a, b)) rest ((g a).read rest) (sym (ap (λ r. first r λ a rest. second (λ b. (a, b)) rest ((g a).read rest)) e) ∙ o)

pub mapped_begun : {A B : Type 0} (f : Format A) (to : A → B) (from : B → A) (P : B → Type 0) (text : List ℕ) → (f.read text ≡ other → ⊥) → (mapped f to from P).read text ≡ other → ⊥
mapped_begun f to from P text n o = mapped_never to (f.read text) n o

-- a part is absent where another format's unit stands
pub absent_other : {A : Type 0} (text : List ℕ) {r : Answer A} → r ≡ other → Absent text r
absent_other text e = rw e tt

-- nothing more is read where it is absent
pub absent_reads : {A C : Type 0} (c : C) (text : List ℕ) (r : Answer A) (k : A → List ℕ → Answer C) → Absent text r → maybe c text r k ≡ value c text
absent_reads c text (value a left) k p = absurd p
absent_reads c text other k p = refl
absent_reads c text (wrong left) k p = absurd p
absent_reads c [] short k p = refl
absent_reads c (b ∷ text) short k p = absurd p
