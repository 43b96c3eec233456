-- Sequences of lawful formats are lawful.
use Prim.Native.Nat.{ℕ}
use mathlib.Core.List.{List, ◌++◌, append_assoc}
use mathlib.Core.Path.{◌≡◌, refl, ap, ◌∙◌}
use Rattle.format.specs.Format.{Answer, value, other, wrong, short, Format, first, second, sequence}
use Rattle.format.proofs.Lawful.{Says, Lawful, whole_append, second_says}

-- where the first part cannot begin, nor can the sequence
pub sequence_other : {A B : Type 0} (f : Format A) (g : A → Format B) (text : List ℕ) → f.read text ≡ other → (sequence f g).read text ≡ other
sequence_other f g text e = ap (λ r. first r λ a rest. second (λ b. (a, b)) rest ((g a).read rest)) e

-- once the first part is read, the second is
pub sequence_on : {A B : Type 0} (w : ℕ) (f : Format A) (g : A → Format B) → Lawful w f → (a : A) (y : List ℕ) → f.Valid a → f.Follow a y
    → (sequence f g).read (f.write a ++ y) ≡ second (λ b. (a, b)) y ((g a).read y)
sequence_on w f g l a y ok p = ap (λ r. first r λ a rest. second (λ b. (a, b)) rest ((g a).read rest)) (l.reads a y ok p)

module _ {A B : Type 0} (w : ℕ) (f : Format A) (g : A → Format B) (l : Lawful w f) (m : (a : A) → f.Valid a → Lawful w (g a)) where
  abbrev h : Format (A × B)
  h = sequence f g

  says_go : (text : List ℕ) (r : Answer A) → Says f text r → Says h text (first r λ a rest. second (λ b. (a, b)) rest ((g a).read rest))
  says_go text (value a rest) s =
      rw s.0
      (second_says f (g a) h a (λ b. (a, b)) (λ b. refl) (λ b v. (s.1, v)) (λ b rest p q. (p, q)) rest s.2 ((g a).read rest) ((m a s.1).says rest))
  says_go text other s = tt
  says_go text (wrong rest) s = tt
  says_go text short s = tt

  pub sequence_lawful : Lawful w (sequence f g)
  sequence_lawful = record {
    whole = λ v ok. whole_append w (f.write v.0) ((g v.0).write v.1) (l.whole v.0 ok.0) ((m v.0 ok.0).whole v.1 ok.1);
    reads = λ v rest ok p.
        ap h.read (append_assoc (f.write v.0) ((g v.0).write v.1) rest)
        ∙ sequence_on w f g l v.0 ((g v.0).write v.1 ++ rest) ok.0 p.1
        ∙ ap (second (λ b. (v.0, b)) ((g v.0).write v.1 ++ rest)) ((m v.0 ok.0).reads v.1 rest ok.1 p.0);
    says = λ text. says_go text (f.read text) (l.says text);
  }
