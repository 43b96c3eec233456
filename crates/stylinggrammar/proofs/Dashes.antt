-- How a styled text is read, with and without a dash after a whole sign: once over the unit and the format of the sign.
use Prim.Native.Nat.{ℕ, suc, ◌<◌}
use mathlib.Core.List.{List, [], ◌∷◌, ◌++◌}
use mathlib.Core.Path.{◌≡◌, refl, sym, ap, ◌∙◌}
use mathlib.Core.Bool.{Bool, true, false}
use mathlib.Core.Logic.{◌⊎◌, inl, inr, ◌↔◌}
use lib.Dec.{eqb, ltb}
use lib.ListN.{length, take, drop, length-append, take-append-drop}
use lib.Seq.{drop_at, take-append_seam}
use native.Mathlib.Omega.{arith}
use borrow.Author.Tests.{ne_eqb, eqb-true, lt-ltb, ltb-true, ltb-false}
use Rattle.format.specs.Format.{Format, All, choose}
use Rattle.format.specs.Places.{Outcome, fine, refused, ends_short, reading}
use Rattle.format.proofs.Lists.{cons_head, cons_tail}
use Rattle.stylinggrammar.specs.Styling.{Spelling, styling}
use Rattle.stylinggrammar.specs.Styled.{dash_at, undashed, dashed, split, read_both}
use Rattle.stylinggrammar.specs.StyledLaws.{Dashed}
use Rattle.grammar.proofs.SignBytes.{Over}

-- a text without a dash
abbrev pub Plain : List ℕ → Type 0
Plain bytes = All (λ b. b ≡ 45 → ⊥) bytes

pub over_plain : (l : List ℕ) → Over l → Plain l
over_plain [] h = tt
over_plain (b ∷ l) h = (λ e. omega (arith, h.0), over_plain l h.1)

-- the first dash is where it is
pub dash_at_lem : (a b : List ℕ) → Plain a → dash_at (a ++ (45 ∷ b)) ≡ length a
unfolding dash_at
dash_at_lem [] b p = refl
dash_at_lem (x ∷ a) b p = rw (ne_eqb x 45 p.0) (ap suc (dash_at_lem a b p.1))

-- what stands before and after it is told apart
pub same_front : (a b c d : List ℕ) → Plain a → Plain c → a ++ (45 ∷ b) ≡ c ++ (45 ∷ d) → (a ≡ c) × (b ≡ d)
same_front [] b [] d p q e = (refl, cons_tail e)
same_front [] b (y ∷ c) d p q e = absurd (q.0 (sym (cons_head e)))
same_front (x ∷ a) b [] d p q e = absurd (p.0 (cons_head e))
same_front (x ∷ a) b (y ∷ c) d p q e =
    let z = same_front a b c d p.1 q.1 (cons_tail e) in
    let h = cons_head e in
    (λ i. h i ∷ z.0 i, z.1)

found_go : (b : ℕ) (text : List ℕ) (t : Bool) → eqb b 45 ≡ t → choose t 0 (suc (dash_at text)) < length (b ∷ text)
    → (dash_at text < length text → drop (dash_at text) text ≡ 45 ∷ drop (suc (dash_at text)) text)
    → drop (choose t 0 (suc (dash_at text))) (b ∷ text) ≡ 45 ∷ drop (suc (choose t 0 (suc (dash_at text)))) (b ∷ text)
found_go b text true e h ih = ap (λ k. k ∷ text) (eqb-true b 45 e)
found_go b text false e h ih = ih (omega arith)

-- where it is found, there is one
pub found_dash : (text : List ℕ) → dash_at text < length text → drop (dash_at text) text ≡ 45 ∷ drop (suc (dash_at text)) text
unfolding dash_at
found_dash [] h = absurd (omega arith)
found_dash (b ∷ text) h = found_go b text (eqb b 45) refl h (found_dash text)

module _ {A : Type 0} (w : ℕ) (f : Format A) (fines : (text : List ℕ) (m : A) → (reading w f text ≡ fine m) ↔ (f.Valid m × (text ≡ f.write m)))
    (plain : (v : A) → f.Valid v → Plain (f.write v)) where
  -- after a whole sign and a dash
  module _ (m : A) (ok : f.Valid m) (b : List ℕ) where
    abbrev text : List ℕ
    text = f.write m ++ (45 ∷ b)

    abbrev size : ℕ
    size = length (f.write m)

    dash-is : dash_at text ≡ size
    dash-is = dash_at_lem (f.write m) b (plain m ok)

    sign-is : reading w f (take (dash_at text) text) ≡ fine m
    sign-is = ap (λ k. reading w f (take k text)) dash-is ∙ ap (reading w f) (take-append_seam (f.write m) (45 ∷ b)) ∙ (fines (f.write m) m).1 (ok, refl)

    pub reads_dashed : read_both w f text ≡ dashed size m (reading 1 styling (45 ∷ b))
    unfolding read_both
    reads_dashed =
        let n : size < length text = omega (arith, length-append (f.write m) (45 ∷ b)) in
        let p : ltb (dash_at text) (length text) ≡ true = rw dash-is (lt-ltb size (length text) n) in
        (λ j. choose (p j) (split w f text (dash-is j) (sign-is j)) (undashed (reading w f text)))
        ∙ ap (λ u. dashed size m (reading 1 styling u)) (drop_at (f.write m) (45 ∷ b) size refl)

  pub dash_of : (text : List ℕ) (d : Dashed f text) → dash_at text ≡ length (f.write d.says)
  dash_of text d = ap dash_at d.is ∙ dash-is d.says d.valid d.after

  pub sign_before : (text : List ℕ) (d : Dashed f text) → reading w f (take (dash_at text) text) ≡ fine d.says
  sign_before text d = ap (λ u. reading w f (take (dash_at u) u)) d.is ∙ sign-is d.says d.valid d.after

  -- a dash that is found after a whole sign
  pub dash_found : (text : List ℕ) (m : A) → ltb (dash_at text) (length text) ≡ true → reading w f (take (dash_at text) text) ≡ fine m → Dashed f text
  dash_found text m e z =
      let s = (fines (take (dash_at text) text) m).0 z in
      record {
        says = m;
        valid = s.0;
        after = drop (suc (dash_at text)) text;
        is = sym (take-append-drop (dash_at text) text) ∙ λ i. s.1 i ++ found_dash text (ltb-true (dash_at text) (length text) e) i;
      }

  -- without one
  undashed_go : (text : List ℕ) → (Dashed f text → ⊥) → (t : Bool) (o : Outcome A) → ltb (dash_at text) (length text) ≡ t → reading w f (take (dash_at text) text) ≡ o
      → choose t (split w f text (dash_at text) o) (undashed (reading w f text)) ≡ undashed (reading w f text)
  undashed_go text never true (fine m) e z = absurd (never (dash_found text m e z))
  undashed_go text never true (refused p) e z = refl
  undashed_go text never true ends_short e z = refl
  undashed_go text never false o e z = refl

  pub reads_undashed : (text : List ℕ) → (Dashed f text → ⊥) → read_both w f text ≡ undashed (reading w f text)
  unfolding read_both
  reads_undashed text never = undashed_go text never (ltb (dash_at text) (length text)) (reading w f (take (dash_at text) text)) refl refl

  refused_fine : {X : Type 0} {m : A} {p : ℕ} → refused p ≡ fine m → X
  refused_fine e = absurd (let z : ◌≡◌ {A = ℕ} 0 1 = cc in omega arith)

  short_fine : {X : Type 0} {m : A} → ends_short ≡ fine m → X
  short_fine e = absurd (let z : ◌≡◌ {A = ℕ} 0 1 = cc in omega arith)

  -- there is one or there is none
  case_go : (text : List ℕ) (t : Bool) (o : Outcome A) → ltb (dash_at text) (length text) ≡ t → reading w f (take (dash_at text) text) ≡ o → Dashed f text ⊎ (Dashed f text → ⊥)
  case_go text true (fine m) e z = inl (dash_found text m e z)
  case_go text true (refused p) e z = inr (λ d. refused_fine (sym z ∙ sign_before text d))
  case_go text true ends_short e z = inr (λ d. short_fine (sym z ∙ sign_before text d))
  case_go text false o e z =
      inr (λ d. omega (arith, ltb-false (dash_at text) (length text) e, dash_of text d, ap length d.is, length-append (f.write d.says) (45 ∷ d.after)))

  pub dash_case : (text : List ℕ) → Dashed f text ⊎ (Dashed f text → ⊥)
  dash_case text = case_go text (ltb (dash_at text) (length text)) (reading w f (take (dash_at text) text)) refl refl

  undashed_fine : {X : Type 0} (o : Outcome A) (v : A × Spelling) → undashed o ≡ fine v → X
  undashed_fine (fine m) v e = absurd (let z : ◌≡◌ {A = ℕ} 0 1 = cc in omega arith)
  undashed_fine (refused p) v e = absurd (let z : ◌≡◌ {A = ℕ} 0 1 = cc in omega arith)
  undashed_fine ends_short v e = absurd (let z : ◌≡◌ {A = ℕ} 0 1 = cc in omega arith)

  -- what is read has one
  pub fine_dashed : (text : List ℕ) (v : A × Spelling) → read_both w f text ≡ fine v → Dashed f text
  fine_dashed text v e = go (dash_case text)
    where
      go : Dashed f text ⊎ (Dashed f text → ⊥) → Dashed f text
      go (inl d) = d
      go (inr n) = undashed_fine (reading w f text) v (sym (reads_undashed text n) ∙ e)
