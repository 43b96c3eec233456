-- Reading a whole text: what is read is what is written, once for every lawful format.
use Prim.Native.Nat.{ℕ}
use mathlib.Core.List.{List, [], ◌++◌, append-nil}
use mathlib.Core.Path.{◌≡◌, refl, sym, ap, ◌∙◌}
use mathlib.Core.Logic.{◌↔◌}
use native.Mathlib.Omega.{arith}
use Rattle.format.specs.Format.{Answer, value, other, wrong, short, Format, sequence, end}
use Rattle.format.specs.Places.{whole, fine, outcome, reading}
use Rattle.format.proofs.Lawful.{Says, Lawful}
use Rattle.format.proofs.Sequence.{sequence_lawful}
use Rattle.format.proofs.Parts.{Inverse, mapped_lawful, end_lawful}

pub whole_inverse : {A : Type 0} (w : ℕ) (f : Format A) → Inverse (sequence f λ a. end w) (λ p. p.0) (λ a. (a, tt)) f.Valid
whole_inverse w f = record { good = λ p ok. ok.0; back = λ p ok. refl; sound = λ a ok. (ok, tt); forth = λ a ok. refl }

pub whole_lawful : {A : Type 0} (w : ℕ) (f : Format A) → Lawful w f → Lawful w (whole w f)
whole_lawful w f l =
    mapped_lawful w (sequence f λ a. end w) (λ p. p.0) (λ a. (a, tt)) f.Valid (sequence_lawful w f (λ a. end w) l λ a ok. end_lawful w) (whole_inverse w f)

pub same_fine : {A : Type 0} {v u : A} → fine v ≡ fine u → v ≡ u
same_fine e = cc

module _ {A : Type 0} (w : ℕ) (f : Format A) (l : Lawful w f) where
  abbrev h : Format A
  h = whole w f

  -- what is left of a whole text is nothing
  pub whole_written : (text : List ℕ) (v : A) (rest : List ℕ) → Says h text (value v rest) → f.Valid v × (text ≡ f.write v)
  whole_written text v rest s =
      (s.1, s.0 ∙ ap (λ k. (f.write v ++ []) ++ k) s.2.0 ∙ append-nil (f.write v ++ []) ∙ append-nil (f.write v))

  fine_go : (text : List ℕ) (v : A) (r : Answer A) → Says h text r → outcome text r ≡ fine v → f.Valid v × (text ≡ f.write v)
  fine_go text v (value u rest) s e = let z : u ≡ v = cc in rw z at (whole_written text u rest s)
  fine_go text v other s e = absurd (let z : ◌≡◌ {A = ℕ} 0 1 = cc in omega arith)
  fine_go text v (wrong rest) s e = absurd (let z : ◌≡◌ {A = ℕ} 0 1 = cc in omega arith)
  fine_go text v short s e = absurd (let z : ◌≡◌ {A = ℕ} 0 1 = cc in omega arith)

  module _ (ready : (v : A) → f.Valid v → f.Follow v []) where
    pub reads_formed : (v : A) → f.Valid v → h.read (f.write v) ≡ value v []
    reads_formed v ok =
        ap h.read (sym (append-nil (f.write v)) ∙ sym (append-nil (f.write v ++ []))) ∙ (whole_lawful w f l).reads v [] ok (refl, ready v ok)

    pub fine_exactly : (text : List ℕ) (v : A) → (reading w f text ≡ fine v) ↔ (f.Valid v × (text ≡ f.write v))
    fine_exactly text v = (
      λ e. fine_go text v (h.read text) ((whole_lawful w f l).says text) e,
      λ k. ap (λ t. outcome t (h.read t)) k.1 ∙ ap (outcome (f.write v)) (reads_formed v k.0),
    )
