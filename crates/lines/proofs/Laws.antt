-- Lines and their bytes: each gives the other back.
use Prim.Native.Nat.{ℕ}
use mathlib.Core.Path.{◌≡◌, refl, sym, ap, ◌∙◌}
use mathlib.Core.List.{List, [], ◌∷◌, ◌++◌, append_assoc}
use mathlib.Core.Bool.{Bool, true, false}
use lib.Dec.{eqb}
use lib.ListN.{length}
use native.Mathlib.Omega.{arith}
use borrow.Author.Tests.{eqb-true}
use Rattle.format.specs.Format.{choose, All}
use Rattle.lines.specs.Lines.{byte_before, lines, ended, bytes_of, first_line}
use Rattle.lines.specs.LineLaws.{Plain, LineLaws}

whole : (bytes : List ℕ) → ended bytes ≡ true → bytes_of (lines bytes) ≡ bytes
unfolding lines ended bytes_of
whole [] h = refl
whole (b ∷ []) h =
    let e : b ≡ 10 = eqb-true b 10 h in
    rw e
whole (b ∷ c ∷ d) h = go (eqb b 10) refl (lines (c ∷ d)) (whole (c ∷ d) h)
  where
    go : (t : Bool) → eqb b 10 ≡ t → (ls : List (List ℕ)) → bytes_of ls ≡ c ∷ d → bytes_of (byte_before t b ls) ≡ b ∷ c ∷ d
    go true e ls q =
        let ten : b ≡ 10 = eqb-true b 10 e in
        rw (ten, q)
    go false e [] q = absurd (omega (arith, ap length q))
    go false e (l ∷ ls) q = ap (λ (m : List ℕ). b ∷ m) q

plain : (bytes : List ℕ) → All Plain (lines bytes)
unfolding lines first_line
plain [] = tt
plain (b ∷ d) = go (eqb b 10) refl (lines d) (plain d)
  where
    go : (t : Bool) → eqb b 10 ≡ t → (ls : List (List ℕ)) → All Plain ls → All Plain (byte_before t b ls)
    go true e ls q = (refl, q)
    go false e [] q = tt
    go false e (l ∷ ls) q = (rw e (ap (λ (m : List ℕ). b ∷ m) q.0), q.1)

line_back : (l rest : List ℕ) → Plain l → lines (l ++ (10 ∷ rest)) ≡ l ∷ lines rest
unfolding lines first_line
line_back [] rest h = refl
line_back (b ∷ l) rest h = go (eqb b 10) refl h (λ q. line_back l rest q)
  where
    go : (t : Bool) → eqb b 10 ≡ t → choose t [] (b ∷ first_line l) ≡ b ∷ l → (first_line l ≡ l → lines (l ++ (10 ∷ rest)) ≡ l ∷ lines rest)
        → lines (b ∷ (l ++ (10 ∷ rest))) ≡ (b ∷ l) ∷ lines rest
    go true e q more = absurd (omega (arith, ap length q))
    go false e q more =
        let same : first_line l ≡ l = cc in
        rw (e, more same)

back : (ls : List (List ℕ)) → All Plain ls → lines (bytes_of ls) ≡ ls
unfolding lines bytes_of
back [] h = refl
back (l ∷ ls) h = line_back l (bytes_of ls) h.0 ∙ ap (λ (m : List (List ℕ)). l ∷ m) (back ls h.1)

back_append : (ls : List (List ℕ)) (more : List ℕ) → All Plain ls → lines (bytes_of ls ++ more) ≡ ls ++ lines more
unfolding bytes_of
back_append [] more h = refl
back_append (l ∷ ls) more h =
    rw (append_assoc l (10 ∷ bytes_of ls) more) (line_back l (bytes_of ls ++ more) h.0 ∙ ap (λ (m : List (List ℕ)). l ∷ m) (back_append ls more h.1))

joined : (bytes more : List ℕ) → ended bytes ≡ true → lines (bytes ++ more) ≡ lines bytes ++ lines more
joined bytes more h = ap (λ (l : List ℕ). lines (l ++ more)) (sym (whole bytes h)) ∙ back_append (lines bytes) more (plain bytes)

ended_append : (l rest : List ℕ) → ended rest ≡ true → ended (l ++ (10 ∷ rest)) ≡ true
unfolding ended
ended_append [] [] h = refl
ended_append [] (b ∷ rest) h = h
ended_append (b ∷ []) [] h = refl
ended_append (b ∷ []) (c ∷ rest) h = h
ended_append (b ∷ c ∷ l) rest h = ended_append (c ∷ l) rest h

closed : (ls : List (List ℕ)) → ended (bytes_of ls) ≡ true
unfolding bytes_of ended
closed [] = refl
closed (l ∷ ls) = ended_append l (bytes_of ls) (closed ls)

pub line_laws : LineLaws
line_laws = record { whole = whole; joined = joined; plain = plain; back = back; closed = closed }
