-- A lawful format: what it writes is read back, and what is read was written. Where a text is refused is the matter of Exact.
use Prim.Native.Nat.{ℕ, ◌+◌}
use mathlib.Core.List.{List, ◌++◌, append_assoc}
use mathlib.Core.Path.{◌≡◌, sym, ap, ◌∙◌}
use lib.ListN.{length-append}
use native.Mathlib.Nat.{add-mul}
use Rattle.format.specs.Format.{Answer, value, other, wrong, short, Format, second}
use Rattle.format.specs.Places.{Whole}

-- a value is what is written, it is valid, and the rest may follow it
abbrev pub Says : {A : Type 0} → Format A → List ℕ → Answer A → Type 0
Says f text (value v rest) = (text ≡ f.write v ++ rest) × f.Valid v × f.Follow v rest
Says f text other = Unit
Says f text (wrong rest) = Unit
Says f text short = Unit

-- in units of w bytes
pub record Lawful (w : ℕ) {A : Type 0} (f : Format A) : Type 0 where
  pub whole : (v : A) → f.Valid v → Whole w (f.write v)
  pub reads : (v : A) (rest : List ℕ) → f.Valid v → f.Follow v rest → f.read (f.write v ++ rest) ≡ value v rest
  pub says : (text : List ℕ) → Says f text (f.read text)

pub whole_append : (w : ℕ) (x y : List ℕ) → Whole w x → Whole w y → Whole w (x ++ y)
whole_append w x y p q =
    (p.0 + q.0, length-append x y ∙ rw (p.1, q.1) (sym (add-mul p.0 q.0 w)))

-- what is read second, after the value a of the first: h is a format whose values say a and then a value of g
module _ {A B C : Type 0} (f : Format A) (g : Format B) (h : Format C) (a : A) (c : B → C)
    (writes : (b : B) → h.write (c b) ≡ f.write a ++ g.write b)
    (valid : (b : B) → g.Valid b → h.Valid (c b))
    (follow : (b : B) (rest : List ℕ) → g.Follow b rest → f.Follow a (g.write b ++ rest) → h.Follow (c b) rest) where
  pub second_says : (rest : List ℕ) → f.Follow a rest → (r : Answer B) → Says g rest r → Says h (f.write a ++ rest) (second c rest r)
  second_says rest p (value b left) s = (
    ap (λ k. f.write a ++ k) s.0 ∙ sym (append_assoc (f.write a) (g.write b) left) ∙ ap (λ k. k ++ left) (sym (writes b)),
    valid b s.1,
    follow b left s.2 (rw s.0 at p),
  )
  second_says rest p other s = tt
  second_says rest p (wrong left) s = tt
  second_says rest p short s = tt
