-- Zero or more of an exact format that writes something for each value.
use Prim.Native.Nat.{ℕ, zero, suc, ◌≤◌, ◌<◌}
use mathlib.Core.List.{List, [], ◌∷◌, ◌++◌, append_assoc}
use mathlib.Core.Path.{◌≡◌, refl, ap, ◌∙◌}
use lib.ListN.{length, length-append}
use native.Mathlib.Omega.{arith}
use Rattle.format.specs.Format.{Answer, value, other, wrong, short, Format, second, maybe, many}
use Rattle.format.specs.Places.{Begins}
use Rattle.format.proofs.Lawful.{Says}
use Rattle.format.proofs.Many.{shrinks, step, many_lawful}
use Rattle.format.proofs.Exact.{Exact, Fails, first_bad_lem, first_cut, second_fails, absent_keeps}

module _ {A : Type 0} (w : ℕ) (f : Format A) (l : Exact w f) (solid : (a : A) → f.Valid a → 1 ≤ length (f.write a)) where
  abbrev h : Format (List A)
  h = many f

  abbrev again : List ℕ → Answer A → Answer (List A)
  again text r = maybe [] text r λ a rest. second (λ l. a ∷ l) rest (h.read rest)

  steps : (text : List ℕ) (r : Answer A) → f.read text ≡ r → h.read text ≡ again text r
  steps text r e = step w f l.lawful solid text ∙ ap (again text) e

  extends : (a : A) → f.Valid a → Begins h (f.write a)
  extends a ok = record { says = a ∷ []; valid = (ok, tt); more = []; is = refl }

  none : Begins h []
  none = record { says = []; valid = tt; more = []; is = refl }

  fails_go : (text : List ℕ) (r : Answer A) → Says f text r → Fails w f text r
      → ((rest : List ℕ) → length rest < length text → Fails w h rest (h.read rest)) → Fails w h text (again text r)
  fails_go text (value a rest) v s ih =
      let z = second_fails w f h h l a v.1 (λ b. a ∷ b) (λ b. refl) (λ b k. (v.1, k))
      (λ y p. steps (f.write a ++ y) (value a y) (l.lawful.reads a y v.1 p)) none rest v.2 (h.read rest)
      (ih rest (shrinks w f l.lawful solid text a rest v)) in
      rw (← v.0) at z
  fails_go text other v s ih = tt
  fails_go text (wrong rest) v s ih = first_bad_lem w f h extends (λ x y q. steps x (wrong y) q) text rest s
  fails_go [] short v s ih = tt
  fails_go (b ∷ text) short v s ih = first_cut w f h extends (b ∷ text) s

  fails_upto : (n : ℕ) (text : List ℕ) → length text < n → Fails w h text (h.read text)
  fails_upto zero text p = absurd (omega arith)
  fails_upto (suc n) text p =
      rw (steps text (f.read text) refl)
      (fails_go text (f.read text) (l.lawful.says text) (l.fails text) λ rest z. fails_upto n rest (omega arith))

  keeps_all : (v : List A) (x t u : List ℕ) → h.Valid v → w ≤ length x → h.Follow v (x ++ t) → h.Follow v (x ++ u)
  keeps_all [] x t u ok k p = absent_keeps w f l x t u k p
  keeps_all (a ∷ v) x t u ok k p =
      let y = h.write v in (
        keeps_all v x t u ok.1 k p.0,
        rw (append_assoc y x u) at
            (l.keeps a (y ++ x) t u ok.0 (omega (arith, k, length-append y x)) (rw (← append_assoc y x t) at p.1)),
      )

  pub many_exact : Exact w (many f)
  many_exact = record {
    lawful = many_lawful w f l.lawful solid;
    wide = l.wide;
    some = none;
    keeps = keeps_all;
    fails = λ text. fails_upto (suc (length text)) text (omega arith);
  }
