-- Zero or more of a lawful format that writes something for each value.
use Prim.Native.Nat.{ℕ, zero, suc, ◌≤◌, ◌<◌}
use mathlib.Core.List.{List, [], ◌∷◌, ◌++◌, append_assoc}
use mathlib.Core.Path.{◌≡◌, refl, sym, ap, ◌∙◌}
use lib.ListN.{length, length-append}
use native.Mathlib.Omega.{arith}
use Rattle.format.specs.Format.{Answer, value, other, wrong, short, Format, second, maybe, run, many}
use Rattle.format.specs.Places.{Whole}
use Rattle.format.proofs.Lawful.{Says, Lawful, whole_append, second_says}
use Rattle.format.proofs.Begun.{absent_reads}

-- what is written is written one after the other
pub write_append : {A : Type 0} (f : Format A) (l m : List A) → (many f).write (l ++ m) ≡ (many f).write l ++ (many f).write m
write_append f [] m = refl
write_append f (a ∷ l) m = ap (λ t. f.write a ++ t) (write_append f l m) ∙ sym (append_assoc (f.write a) ((many f).write l) ((many f).write m))

module _ {A : Type 0} (w : ℕ) (f : Format A) (l : Lawful w f) (solid : (a : A) → f.Valid a → 1 ≤ length (f.write a)) where
  abbrev h : Format (List A)
  h = many f

  -- what is left after an item is less
  pub shrinks : (text : List ℕ) (a : A) (rest : List ℕ) → Says f text (value a rest) → length rest < length text
  shrinks text a rest s = omega (arith, ap length s.0, length-append (f.write a) rest, solid a s.1)

  enough_go : (j k : ℕ) (text : List ℕ) (r : Answer A) → Says f text r
      → ((rest : List ℕ) → length rest < length text → run f.read j rest ≡ run f.read k rest)
      → ◌≡◌ {A = Answer (List A)} (maybe [] text r λ a rest. second (λ l. a ∷ l) rest (run f.read j rest))
      (maybe [] text r λ a rest. second (λ l. a ∷ l) rest (run f.read k rest))
  enough_go j k text (value a rest) s ih = ap (second (λ l. a ∷ l) rest) (ih rest (shrinks text a rest s))
  enough_go j k text other s ih = refl
  enough_go j k text (wrong rest) s ih = refl
  enough_go j k text short s ih = refl

  -- any bound above the length of the text is enough
  enough : (j k : ℕ) (text : List ℕ) → length text < j → length text < k → run f.read j text ≡ run f.read k text
  enough zero k text p q = absurd (omega arith)
  enough (suc j) zero text p q = absurd (omega arith)
  enough (suc j) (suc k) text p q =
      enough_go j k text (f.read text) (l.says text) λ rest z. enough j k rest (omega arith) (omega arith)

  abbrev again : List ℕ → Answer A → Answer (List A)
  again text r = maybe [] text r λ a rest. second (λ l. a ∷ l) rest (h.read rest)

  step_go : (text : List ℕ) (r : Answer A) → Says f text r
      → ◌≡◌ {A = Answer (List A)} (maybe [] text r λ a rest. second (λ l. a ∷ l) rest (run f.read (length text) rest)) (again text r)
  step_go text (value a rest) s =
      ap (second (λ l. a ∷ l) rest) (enough (length text) (suc (length rest)) rest (shrinks text a rest s) (omega arith))
  step_go text other s = refl
  step_go text (wrong rest) s = refl
  step_go text short s = refl

  -- the equation that zero or more satisfies
  pub step : (text : List ℕ) → h.read text ≡ again text (f.read text)
  step text = step_go text (f.read text) (l.says text)

  says_go : (text : List ℕ) (r : Answer A) → f.read text ≡ r → Says f text r
      → ((rest : List ℕ) → length rest < length text → Says h rest (h.read rest)) → Says h text (again text r)
  says_go text (value a rest) e s ih =
      let z = second_says f h h a (λ b. a ∷ b) (λ b. refl) (λ b v. (s.1, v)) (λ b rest p q. (p, q)) rest s.2 (h.read rest) (ih rest (shrinks text a rest s)) in
      rw (← s.0) at z
  says_go text other e s ih = (refl, tt, rw e tt)
  says_go text (wrong rest) e s ih = tt
  says_go [] short e s ih = (refl, tt, rw e tt)
  says_go (b ∷ text) short e s ih = tt

  says_upto : (n : ℕ) (text : List ℕ) → length text < n → Says h text (h.read text)
  says_upto zero text p = absurd (omega arith)
  says_upto (suc n) text p =
      rw (step text) (says_go text (f.read text) refl (l.says text) λ rest z. says_upto n rest (omega arith))

  whole_all : (v : List A) → h.Valid v → Whole w (h.write v)
  whole_all [] ok = (0, omega arith)
  whole_all (a ∷ v) ok = whole_append w (f.write a) (h.write v) (l.whole a ok.0) (whole_all v ok.1)

  reads_all : (v : List A) (rest : List ℕ) → h.Valid v → h.Follow v rest → h.read (h.write v ++ rest) ≡ value v rest
  reads_all [] rest ok p = step rest ∙ absent_reads [] rest (f.read rest) (λ a left. second (λ l. a ∷ l) left (h.read left)) p
  reads_all (a ∷ v) rest ok p =
      let y = h.write v ++ rest in
      ap h.read (append_assoc (f.write a) (h.write v) rest)
      ∙ step (f.write a ++ y)
      ∙ ap (again (f.write a ++ y)) (l.reads a y ok.0 p.1)
      ∙ ap (second (λ l. a ∷ l) y) (reads_all v rest ok.1 p.0)

  pub many_lawful : Lawful w (many f)
  many_lawful = record { whole = whole_all; reads = reads_all; says = λ text. says_upto (suc (length text)) text (omega arith) }
