-- The shortest spelling of a zoom: it means the zoom, no other spelling is shorter, and none is as short.
use Prim.Native.Nat.{ℕ, suc, ◌+◌, ◌/◌, ◌%◌, ◌≤◌}
use mathlib.Core.List.{List, [], ◌∷◌}
use mathlib.Core.Path.{◌≡◌, refl, sym, ap, ◌∙◌}
use mathlib.Core.Bool.{true, and-eq-true_iff}
use mathlib.Core.Option.{Option, none, some}
use lib.Dec.{eqb, ltb}
use lib.ListN.{length, length-append}
use native.Mathlib.Omega.{arith}
use borrow.Author.Tests.{eq-eqb, eqb-true, eqb-false, ltb-true, ltb-false, leb-true}
use Rattle.format.specs.Format.{optional, many}
use Rattle.format.specs.Numeral.{Range}
use Rattle.charset.specs.Bytes.{digit, after}
use Rattle.charset.proofs.Coding.{by_test}
use Rattle.stylinggrammar.specs.Styling.{among, Figures, figures, Decimal, decimal}
use Rattle.stylinggrammar.specs.Meaning.{onward, wholes, cents, hundredths, few_decimals, good_zoom, whole_figures, cent_figures, decimal_of}
use Rattle.stylinggrammar.proofs.Tests.{among_true, among_range}

-- WHAT IS WRITTEN FOR A ZOOM MEANS IT

whole_back : (w : ℕ) → w ≤ 99 → onward (whole_figures w).0 (whole_figures w).1 ≡ w
whole_back w h = by_test (λ (f : Figures). onward f.0 f.1 ≡ w) (ltb w 10) (λ x. refl) λ x. omega arith

cent_back : (c : ℕ) → c ≤ 99 → cents (cent_figures c) ≡ c
cent_back c h =
    by_test (λ o. cents o ≡ c) (eqb c 0) (λ x. sym (eqb-true c 0 x)) λ x.
    by_test (λ o. cents o ≡ c) (eqb (c % 10) 0) (λ y. omega (arith, eqb-true (c % 10) 0 y)) λ y. omega arith

cent_few : (c : ℕ) → few_decimals (cent_figures c) ≡ true
cent_few c =
    by_test (λ o. few_decimals o ≡ true) (eqb c 0) (λ x. refl) λ x.
    by_test (λ o. few_decimals o ≡ true) (eqb (c % 10) 0) (λ y. refl) λ y. refl

pub zoom_back : (n : ℕ) → Range 1 9999 n → hundredths (decimal_of n) ≡ n
zoom_back n ok = rw (whole_back (n / 100) (omega (arith, ok.1)), cent_back (n % 100) (omega arith)) (omega arith)

whole_valid : (w : ℕ) → w ≤ 99 → figures.Valid (whole_figures w)
whole_valid w h =
    by_test (λ f. figures.Valid f) (ltb w 10) (λ x. ((omega arith, omega (arith, ltb-true w 10 x)), tt)) λ x.
    ((omega arith, omega arith), ((omega arith, omega arith), tt))

cent_valid : (c : ℕ) → c ≤ 99 → (optional (after 46 figures)).Valid (cent_figures c)
cent_valid c h =
    by_test (λ o. (optional (after 46 figures)).Valid o) (eqb c 0) (λ x. tt) λ x.
    by_test (λ o. (optional (after 46 figures)).Valid o) (eqb (c % 10) 0) (λ y. ((omega arith, omega arith), tt)) λ y.
    ((omega arith, omega arith), ((omega arith, omega arith), tt))

pub zoom_valid : (n : ℕ) → Range 1 9999 n → decimal.Valid (decimal_of n)
zoom_valid n ok = (whole_valid (n / 100) (omega (arith, ok.1)), cent_valid (n % 100) (omega arith))

pub zoom_good : (n : ℕ) → Range 1 9999 n → good_zoom (decimal_of n) ≡ true
zoom_good n ok =
    (and-eq-true_iff (few_decimals (cent_figures (n % 100))) (among 1 9999 (hundredths (decimal_of n)))).1 (cent_few (n % 100), rw (zoom_back n ok) (among_true 1 9999 n ok))

good : (z : Decimal) → good_zoom z ≡ true → (few_decimals z.1 ≡ true) × Range 1 9999 (hundredths z)
good z g =
    let k = (and-eq-true_iff (few_decimals z.1) (among 1 9999 (hundredths z))).0 g in
    (k.0, among_range 1 9999 (hundredths z) k.1)

pub zoom_range : (z : Decimal) → good_zoom z ≡ true → Range 1 9999 (hundredths z)
zoom_range z g = (good z g).1

-- HOW MANY BYTES ARE WRITTEN

abbrev pub point : Option Figures → List ℕ
point o = (optional (after 46 figures)).write o

pub figure_length : (l : List ℕ) → length ((many (digit 0 9)).write l) ≡ length l
figure_length [] = refl
figure_length (d ∷ l) = ap suc (figure_length l)

pub zoom_length : (w : Figures) (o : Option Figures) → length (decimal.write (w, o)) ≡ suc (length w.1) + length (point o)
zoom_length w o = length-append (figures.write w) (point o) ∙ ap (λ n. suc n + length (point o)) (figure_length w.1)

cents_below : (o : Option Figures) → (optional (after 46 figures)).Valid o → cents o ≤ 99
cents_below none ok = omega arith
cents_below (some (a, [])) ok = omega (arith, ok.0.1)
cents_below (some (a, b ∷ l)) ok = omega (arith, ok.0.1, ok.1.0.1)

-- the fewest digits before the point
whole_fewest : (d : ℕ) (l : List ℕ) → d ≤ 9 → (w : ℕ) → w ≡ onward d l → suc (length (whole_figures w).1) ≤ suc (length l)
whole_fewest d l h w e =
    by_test (λ (f : Figures). suc (length f.1) ≤ suc (length l)) (ltb w 10) (λ x. omega arith) λ x. go l e (ltb-false w 10 x)
  where
    go : (l : List ℕ) → w ≡ onward d l → 10 ≤ w → 2 ≤ suc (length l)
    go [] e k = absurd (omega (arith, e))
    go (b ∷ l) e k = omega arith

too_many : {X : Type 0} (a b d : ℕ) (l : List ℕ) → few_decimals (some (a, b ∷ d ∷ l)) ≡ true → X
too_many a b d l f = absurd (omega (arith, leb-true (length (b ∷ d ∷ l)) 1 f))

-- the fewest digits after it
cent_fewest : (o : Option Figures) → few_decimals o ≡ true → (c : ℕ) → c ≡ cents o → length (point (cent_figures c)) ≤ length (point o)
cent_fewest none f c e = rw (eq-eqb c 0 e) (omega arith)
cent_fewest (some (a, [])) f c e =
    by_test (λ u. length (point u) ≤ 2) (eqb c 0) (λ x. omega arith) λ x.
    rw (eq-eqb (c % 10) 0 (omega (arith, e))) (omega arith)
cent_fewest (some (a, b ∷ [])) f c e =
    by_test (λ u. length (point u) ≤ 3) (eqb c 0) (λ x. omega arith) λ x.
    by_test (λ u. length (point u) ≤ 3) (eqb (c % 10) 0) (λ y. omega arith) λ y. omega arith
cent_fewest (some (a, b ∷ d ∷ l)) f c e = too_many a b d l f

-- NO OTHER DIGITS ARE AS FEW

whole_unique : (d : ℕ) (l : List ℕ) → figures.Valid (d, l) → (w : ℕ) → w ≡ onward d l → suc (length l) ≤ suc (length (whole_figures w).1) → whole_figures w ≡ (d, l)
whole_unique d l ok w e =
    by_test (λ (f : Figures). suc (length l) ≤ suc (length f.1) → f ≡ (d, l)) (ltb w 10) (λ x h. small l e h) λ x h. large l ok.1 e (ltb-false w 10 x) h
  where
    small : (l : List ℕ) → w ≡ onward d l → suc (length l) ≤ 1 → ◌≡◌ {A = Figures} (w, []) (d, l)
    small [] e h = λ i. (e i, [])
    small (b ∷ l) e h = absurd (omega arith)

    large : (l : List ℕ) → (many (digit 0 9)).Valid l → w ≡ onward d l → 10 ≤ w → suc (length l) ≤ 2 → ◌≡◌ {A = Figures} (w / 10, w % 10 ∷ []) (d, l)
    large [] k e n h = absurd (omega (arith, e, ok.0.1))
    large (b ∷ []) k e n h =
        let p : w / 10 ≡ d = omega (arith, e, k.0.1) in
        let q : w % 10 ≡ b = omega (arith, e, k.0.1) in
        λ i. (p i, q i ∷ [])
    large (b ∷ c ∷ l) k e n h = absurd (omega arith)

cent_unique : (o : Option Figures) → (optional (after 46 figures)).Valid o → few_decimals o ≡ true → (c : ℕ) → c ≡ cents o
    → length (point o) ≤ length (point (cent_figures c)) → cent_figures c ≡ o
cent_unique none ok f c e = λ h. rw (eq-eqb c 0 e)
cent_unique (some (a, [])) ok f c e =
    by_test (λ u. 2 ≤ length (point u) → u ≡ some (a, [])) (eqb c 0) (λ x h. absurd (omega arith)) λ x.
    by_test (λ u. 2 ≤ length (point u) → u ≡ some (a, [])) (eqb (c % 10) 0) (λ y h. ap (λ k. some (k, [])) (omega (arith, e))) λ y h.
    absurd (eqb-false (c % 10) 0 y (omega (arith, e)))
cent_unique (some (a, b ∷ [])) ok f c e =
    by_test (λ u. 3 ≤ length (point u) → u ≡ some (a, b ∷ [])) (eqb c 0) (λ x h. absurd (omega arith)) λ x.
    by_test (λ u. 3 ≤ length (point u) → u ≡ some (a, b ∷ [])) (eqb (c % 10) 0) (λ y h. absurd (omega arith)) λ y h.
    let p : c / 10 ≡ a = omega (arith, e, ok.1.0.1) in
    let q : c % 10 ≡ b = omega (arith, e, ok.1.0.1) in
    λ i. some (p i, q i ∷ [])
cent_unique (some (a, b ∷ d ∷ l)) ok f c e = too_many a b d l f

-- THE SHORTEST SPELLING

module _ (z : Decimal) (ok : decimal.Valid z) (g : good_zoom z ≡ true) where
  abbrev n : ℕ
  n = hundredths z

  whole_part : n / 100 ≡ wholes z
  whole_part = omega (arith, cents_below z.1 ok.1)

  cent_part : n % 100 ≡ cents z.1
  cent_part = omega (arith, cents_below z.1 ok.1)

  whole_least : suc (length (whole_figures (n / 100)).1) ≤ suc (length z.0.1)
  whole_least = whole_fewest z.0.0 z.0.1 ok.0.0.1 (n / 100) whole_part

  cent_least : length (point (cent_figures (n % 100))) ≤ length (point z.1)
  cent_least = cent_fewest z.1 (good z g).0 (n % 100) cent_part

  pub zoom_shortest : length (decimal.write (decimal_of (hundredths z))) ≤ length (decimal.write z)
  zoom_shortest = omega (arith, zoom_length (whole_figures (n / 100)) (cent_figures (n % 100)), zoom_length z.0 z.1, whole_least, cent_least)

  pub zoom_unique : length (decimal.write z) ≤ length (decimal.write (decimal_of (hundredths z))) → decimal_of (hundredths z) ≡ z
  zoom_unique h =
      let a = zoom_length (whole_figures (n / 100)) (cent_figures (n % 100)) in
      let b = zoom_length z.0 z.1 in
      let u = whole_unique z.0.0 z.0.1 ok.0 (n / 100) whole_part (omega (arith, a, b, whole_least, cent_least, h)) in
      let v = cent_unique z.1 ok.1 (good z g).0 (n % 100) cent_part (omega (arith, a, b, whole_least, cent_least, h)) in
      λ i. (u i, v i)
