-- The law of places of a styled text, from the laws of its two parts: once over the unit and the format of the sign.
use Prim.Native.Nat.{ℕ, ◌+◌, ◌*◌, ◌≤◌}
use mathlib.Core.List.{List, [], ◌∷◌, ◌++◌, append-nil}
use mathlib.Core.Path.{◌≡◌, refl, sym, ap, ◌∙◌}
use mathlib.Core.Logic.{◌↔◌}
use lib.ListN.{length, take, length-append}
use lib.Seq.{take_all}
use native.Mathlib.Omega.{arith}
use native.Mathlib.Nat.{mul-one}
use native.Mathlib.Numerals.{add-one}
use Rattle.format.specs.Format.{Format}
use Rattle.format.specs.Places.{Whole, Outcome, fine, refused, ends_short, reading, Means}
use Rattle.stylinggrammar.specs.Styling.{Spelling, styling}
use Rattle.stylinggrammar.proofs.Styling.{styling_exact, styling_ready}
use Rattle.format.proofs.Places.{exactly, one_outcome}
use Rattle.format.proofs.Reading.{same_fine}
use Rattle.stylinggrammar.specs.Styled.{styled, undashed, dashed, read_both}
use Rattle.stylinggrammar.specs.StyledLaws.{Dashed, Mixed}
use Rattle.stylinggrammar.proofs.Dashes.{Plain, reads_dashed, reads_undashed, dash_case, fine_dashed}
use Rattle.stylinggrammar.proofs.Begun.{body, parts_same, sign_begins, after_begins, begins_after, formed_after, front_take, begins_sign, undashed_unformed}

pub stylings : (text : List ℕ) (o : Outcome Spelling) → (reading 1 styling text ≡ o) ↔ Means 1 styling text o
stylings = exactly 1 styling styling_exact styling_ready

module _ {A : Type 0} (w : ℕ) (f : Format A) (fines : (text : List ℕ) (m : A) → (reading w f text ≡ fine m) ↔ (f.Valid m × (text ≡ f.write m)))
    (plain : (v : A) → f.Valid v → Plain (f.write v)) where
  -- a text has one sign and one styling
  one : (v u : A × Spelling) → (styled f).Valid v → (styled f).Valid u → (styled f).write v ≡ (styled f).write u → v ≡ u
  one v u p q e =
      let z = parts_same f plain v.0 u.0 (body v.1) (body u.1) p.0 q.0 e in
      let x = same_fine (sym ((fines (f.write v.0) v.0).1 (p.0, refl)) ∙ (fines (f.write v.0) u.0).1 (q.0, z.0)) in
      let k = stylings (styling.write v.1) in
      let y = same_fine (sym ((k (fine v.1)).1 (p.1, refl)) ∙ (k (fine u.1)).1 (q.1, ap (λ k. 45 ∷ k) z.1)) in
      λ i. (x i, y i)

  -- after a whole sign and a dash, byte by byte
  module _ (m : A) (ok : f.Valid m) (b : List ℕ) where
    abbrev text : List ℕ
    text = f.write m ++ (45 ∷ b)

    abbrev i : ℕ
    i = length (f.write m)

    after-means : (o : Outcome Spelling) → Means 1 styling (45 ∷ b) o → Means 1 (styled f) text (dashed i m o)
    after-means (fine t) s = ((ok, s.0), ap (λ u. f.write m ++ u) s.1)
    after-means (refused q) s = record {
      inside = omega (arith, s.inside, length-append (f.write m) (45 ∷ b));
      unit = i + q;
      multiple = sym (mul-one (i + q));
      begins = rw (front_take f plain m ok (45 ∷ b) q) (after_begins f plain m ok (take q (45 ∷ b)) s.begins);
      never = λ k.
          let e : i + q + 1 ≡ i + (q + 1) = omega arith in
          let z : take (q + 1) (45 ∷ b) ≡ 45 ∷ take q b = ap (λ n. take n (45 ∷ b)) (add-one q) in
          s.never (rw z (begins_after f plain m ok (take q b) (rw (e, front_take f plain m ok (45 ∷ b) (q + 1), z) at k)));
    }
    after-means ends_short s =
        let k : s.units * 1 ≡ length (45 ∷ b) = omega (arith, s.inside, s.less) in
        record {
          units = length text;
          inside = omega arith;
          less = omega arith;
          begins = rw (mul-one (length text), take_all (length text) text (omega arith))
              (after_begins f plain m ok (45 ∷ b) (rw (k, take_all (length (45 ∷ b)) (45 ∷ b) (omega arith)) at s.begins));
          unformed = λ k. s.unformed (formed_after f plain m ok b k);
        }

    pub bytes_mean : Means 1 (styled f) text (read_both w f text)
    bytes_mean = rw (reads_dashed w f fines plain m ok b) (after-means (reading 1 styling (45 ∷ b)) ((stylings (45 ∷ b) (reading 1 styling (45 ∷ b))).0 refl))

  dashed_means : (text : List ℕ) → Dashed f text → Means 1 (styled f) text (read_both w f text)
  dashed_means text d = rw d.is (bytes_mean d.says d.valid d.after)

  pub bytes_exactly : (text : List ℕ) (o : Outcome (A × Spelling)) → Dashed f text → (read_both w f text ≡ o) ↔ Means 1 (styled f) text o
  bytes_exactly text o d = (λ e. rw e at (dashed_means text d), λ k. one_outcome 1 (styled f) one text (read_both w f text) o (dashed_means text d) k)

  -- WHAT IS READ is a sign and a styling, one written after the other
  pub both_fines : (text : List ℕ) (m : A) (t : Spelling) → (read_both w f text ≡ fine (m, t)) ↔ (f.Valid m × (styling.Valid t × (text ≡ f.write m ++ styling.write t)))
  both_fines text m t = (
    λ e. let k = (bytes_exactly text (fine (m, t)) (fine_dashed w f fines plain text (m, t) e)).0 e in (k.0.0, (k.0.1, k.1)),
    λ k. (bytes_exactly text (fine (m, t)) (record { says = m; valid = k.0; after = body t; is = k.1.1 })).1 ((k.0, k.1.0), k.1.1),
  )

module _ {A : Type 0} (w : ℕ) (f : Format A) (signs : (text : List ℕ) (o : Outcome A) → (reading w f text ≡ o) ↔ Means w f text o)
    (wide : 1 ≤ w) (whole : (v : A) → f.Valid v → Whole w (f.write v)) (plain : (v : A) → f.Valid v → Plain (f.write v)) where
  abbrev fines : (text : List ℕ) (m : A) → (reading w f text ≡ fine m) ↔ (f.Valid m × (text ≡ f.write m))
  fines text m = signs text (fine m)

  -- without such a dash, unit by unit
  module _ (text : List ℕ) (never : Dashed f text → ⊥) where
    undashed-means : (o : Outcome A) → Means w f text o → Means w (styled f) text (undashed o)
    undashed-means (fine m) s =
        let n = whole m s.0 in
        let z : length text ≡ n.0 * w = ap length s.1 ∙ n.1 in
        record {
          units = n.0;
          inside = omega (arith, z);
          less = omega (arith, z);
          begins = rw (← z, take_all (length text) text (omega arith)) (sign_begins f plain text (record { says = m; valid = s.0; more = []; is = sym (append-nil text ∙ s.1) }));
          unformed = undashed_unformed f plain text never;
        }
    undashed-means (refused p) s = record {
      inside = s.inside;
      unit = s.unit;
      multiple = s.multiple;
      begins = sign_begins f plain (take p text) s.begins;
      never = λ k. s.never (begins_sign f plain text never (p + w) k);
    }
    undashed-means ends_short s = record {
      units = s.units;
      inside = s.inside;
      less = s.less;
      begins = sign_begins f plain (take (s.units * w) text) s.begins;
      unformed = undashed_unformed f plain text never;
    }

    units-mean : Means w (styled f) text (read_both w f text)
    units-mean = rw (reads_undashed w f fines plain text never) (undashed-means (reading w f text) ((signs text (reading w f text)).0 refl))

  pub mixed : Mixed w f
  mixed = record {
    bytes = bytes_exactly w f fines plain;
    units = λ text o n. (λ e. rw e at (units-mean text n), λ k. one_outcome w (styled f) (one w f fines plain) text (read_both w f text) o (units-mean text n) k);
    cases = dash_case w f fines plain;
  }
