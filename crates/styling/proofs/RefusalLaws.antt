-- When a sign with a styling is refused, from what its text comes to and from the tests of its limits.
use Prim.Native.Nat.{ℕ, ◌≤◌, ◌<◌}
use mathlib.Core.Path.{◌≡◌, refl, sym, ap, ◌∙◌}
use mathlib.Core.List.{List}
use mathlib.Core.Bool.{Bool, true, false}
use mathlib.Core.Logic.Iff
use mathlib.Core.Logic.{◌⊎◌, inl, inr, ⊎_elim, ◌↔◌}
use lib.Dec.{leb}
use lib.ListN.{length}
use native.Mathlib.Omega.{arith}
use Rattle.format.specs.Numeral.{Range}
use Rattle.format.specs.Places.{Outcome, fine, refused, ends_short, Means}
use Rattle.charset.specs.declared.Charset.{Charset}
use Rattle.charset.specs.declared.Charset.TheVariants.{Fsw, Swu}
use Rattle.grammar.specs.Sign.{Meaning, sign}
use Rattle.token.specs.Refusal.{text_wrong, text_short, prefix_long, signbox_long, zoom_outside, colour_long, styles_long}
use Rattle.token.specs.Result.{Result, refusal, done, on_done, check, and_then, of_outcome}
use Rattle.token.proofs.Exactly.{Never, check_never, check_passed, check_stopped, text_wrong_lem, text_short_lem, said_exactly}
use Rattle.token.proofs.Results.{on_done_refusal}
use Rattle.reader.specs.Signs.{within_limits}
use Rattle.reader.proofs.Limits.{within_never, prefix_exceeds, signbox_exceeds}
use Rattle.sign.specs.Reading.{packed, reading_of}
use Rattle.sign.specs.RefusalLaws.{Answers}
use Rattle.sign.proofs.RefusalLaws.{answers_exactly}
use Rattle.stylinggrammar.specs.Styling.{Spelling}
use Rattle.stylinggrammar.specs.Meaning.{meaning, zooms_good, names_good, styles_few}
use Rattle.stylinggrammar.specs.StylingLaws.{Accepted}
use Rattle.stylinggrammar.specs.Record.{record_of}
use Rattle.stylinggrammar.specs.Styled.{styled, read_styled}
use Rattle.stylinggrammar.specs.StyledLaws.{Dashed}
use Rattle.stylinggrammar.proofs.StyledLaws.{styled_laws}
use Rattle.styling.specs.Reading.{styled_limits, styled_of, styled_reading, record_left}
use Rattle.styling.specs.RefusalLaws.{SaysStyled, ByUnits, StyledWrongAt, StyledStopsEarly, StyledRefusalLaws}
use Rattle.styling.proofs.Splits.{styled_split, split_styled, styled_means}

-- THE LIMITS, one test after the other

then_check : {A B : Type 0} (test : Bool) (n p : ℕ) (r : Result A) (next : A → Result B) → and_then (check test n p r) next ≡ check test n p (and_then r next)
then_check true n p r next = refl
then_check false n p r next = refl

same_refusal : {A : Type 0} {x y z : Result A} → x ≡ y → (x ≡ z) ↔ (y ≡ z)
same_refusal e = (λ h. sym e ∙ h, λ h. e ∙ h)

-- a number that is not of the limits of a sign
abbrev Other : ℕ → Type 0
Other k = (prefix_long ≡ k → ⊥) × (signbox_long ≡ k → ⊥)

module _ (m : Meaning) (t : Spelling) where
  abbrev sign_limits : Result (Meaning × Spelling)
  sign_limits = on_done (λ k. (k, t)) (within_limits m)

  abbrev from_styles : Result (Meaning × Spelling)
  from_styles = check (styles_few t) styles_long 0 sign_limits

  abbrev from_names : Result (Meaning × Spelling)
  from_names = check (names_good t) colour_long 0 from_styles

  abbrev from_zooms : Result (Meaning × Spelling)
  from_zooms = check (zooms_good t) zoom_outside 0 from_names

  in_order : styled_limits (m, t) ≡ from_zooms
  in_order =
      let next : Spelling → Result (Meaning × Spelling) = λ u. on_done (λ k. (k, u)) (within_limits m) in
      then_check (zooms_good t) zoom_outside 0 (check (names_good t) colour_long 0 (check (styles_few t) styles_long 0 (done t))) next
      ∙ ap (check (zooms_good t) zoom_outside 0)
      (then_check (names_good t) colour_long 0 (check (styles_few t) styles_long 0 (done t)) next
      ∙ ap (check (names_good t) colour_long 0) (then_check (styles_few t) styles_long 0 (done t) next))

  sign_never : (k : ℕ) → Other k → Never k sign_limits
  sign_never k h q e = within_never m k h.0 h.1 q (on_done_refusal (λ k. (k, t)) (within_limits m) k q e)

  styles_never : (k : ℕ) → Other k → (styles_long ≡ k → ⊥) → Never k from_styles
  styles_never k h n = check_never (styles_few t) styles_long k 0 sign_limits n (sign_never k h)

  names_never : (k : ℕ) → Other k → (styles_long ≡ k → ⊥) → (colour_long ≡ k → ⊥) → Never k from_names
  names_never k h n₁ n₂ = check_never (names_good t) colour_long k 0 from_styles n₂ (styles_never k h n₁)

  limits_never : (k : ℕ) → k < 3 → Never k (styled_limits (m, t))
  limits_never k h q e =
      check_never (zooms_good t) zoom_outside k 0 from_names (λ e. omega arith) (names_never k (λ e. omega arith, λ e. omega arith) (λ e. omega arith) (λ e. omega arith)) q (sym in_order ∙ e)

  module _ (p : ℕ) where
    zooms-exceed : (styled_limits (m, t) ≡ refusal zoom_outside p) ↔ ((zooms_good t ≡ false) × (p ≡ 0))
    zooms-exceed =
        Iff.trans (same_refusal in_order)
        (check_stopped (zooms_good t) zoom_outside 0 p from_names (names_never zoom_outside (λ e. omega arith, λ e. omega arith) (λ e. omega arith) (λ e. omega arith)))

    names-exceed : (styled_limits (m, t) ≡ refusal colour_long p) ↔ ((zooms_good t ≡ true) × ((names_good t ≡ false) × (p ≡ 0)))
    names-exceed =
        Iff.trans (same_refusal in_order)
        (Iff.trans (check_passed (zooms_good t) zoom_outside colour_long 0 p from_names (λ e. omega arith))
        (Iff.and Iff.rfl (check_stopped (names_good t) colour_long 0 p from_styles (styles_never colour_long (λ e. omega arith, λ e. omega arith) (λ e. omega arith)))))

    styles-exceed : (styled_limits (m, t) ≡ refusal styles_long p) ↔ ((zooms_good t ≡ true) × ((names_good t ≡ true) × ((styles_few t ≡ false) × (p ≡ 0))))
    styles-exceed =
        Iff.trans (same_refusal in_order)
        (Iff.trans (check_passed (zooms_good t) zoom_outside styles_long 0 p from_names (λ e. omega arith))
        (Iff.and Iff.rfl
        (Iff.trans (check_passed (names_good t) colour_long styles_long 0 p from_styles (λ e. omega arith))
        (Iff.and Iff.rfl (check_stopped (styles_few t) styles_long 0 p sign_limits (sign_never styles_long (λ e. omega arith, λ e. omega arith)))))))

    -- an accepted styling, of a sign that its own limits refuse
    sign-exceeds : (k : ℕ) (Exceeds : Type 0) → k < 17 → (within_limits m ≡ refusal k p) ↔ Exceeds → (styled_limits (m, t) ≡ refusal k p) ↔ (Accepted t × Exceeds)
    sign-exceeds k Exceeds h x =
        Iff.trans (same_refusal in_order)
        (Iff.trans (check_passed (zooms_good t) zoom_outside k 0 p from_names (λ e. omega arith))
        (Iff.trans (Iff.and Iff.rfl (check_passed (names_good t) colour_long k 0 p from_styles (λ e. omega arith)))
        (Iff.trans (Iff.and Iff.rfl (Iff.and Iff.rfl (check_passed (styles_few t) styles_long k 0 p sign_limits (λ e. omega arith)))) (
          λ e. (record { zooms = e.0; names = e.1.0; few = e.1.1.0 }, x.0 (on_done_refusal (λ k. (k, t)) (within_limits m) k p e.1.1.1)),
          λ e. (e.0.zooms, (e.0.names, (e.0.few, ap (on_done (λ k. (k, t))) (x.1 e.1)))),
        ))))

-- 1 AND 2

by_units : (text : List ℕ) (o : Outcome (Meaning × Spelling)) → (read_styled Swu text ≡ o) ↔ ByUnits (λ w. Means w (styled (sign Swu)) text o) text
by_units text o = go ((styled_laws Swu).places.cases text)
  where
    go : Dashed (sign Swu) text ⊎ (Dashed (sign Swu) text → ⊥) → (read_styled Swu text ≡ o) ↔ ByUnits (λ w. Means w (styled (sign Swu)) text o) text
    go (inl d) =
        let l = (styled_laws Swu).places.bytes text o d in
        (λ e. inl (d, l.0 e), ⊎_elim (λ x. l.1 x.1) (λ x. absurd (x.0 d)))
    go (inr n) =
        let l = (styled_laws Swu).places.units text o n in
        (λ e. inr (n, l.0 e), ⊎_elim (λ x. absurd (n x.0)) (λ x. l.1 x.1))

wrong_places : (set : Charset) (text : List ℕ) (p : ℕ) → (read_styled set text ≡ refused p) ↔ StyledWrongAt set text p
wrong_places Fsw text p = (styled_laws Fsw).places.wrong text p
wrong_places Swu text p = by_units text (refused p)

short_places : (set : Charset) (text : List ℕ) → (read_styled set text ≡ ends_short) ↔ StyledStopsEarly set text
short_places Fsw text = (styled_laws Fsw).places.short text
short_places Swu text = by_units text ends_short

module _ (set : Charset) (text : List ℕ) where
  answers : (n p : ℕ) → 0 < n → Answers (styled_reading set text) n p ↔ (styled_of set text ≡ refusal n p)
  answers n p h =
      Iff.trans (answers_exactly set (on_done (λ k. k.0) (styled_of set text)) n p h)
      (on_done_refusal (λ k. k.0) (styled_of set text) n p, λ e. ap (on_done (λ k. k.0)) e)

  wrong : (p : ℕ) → Answers (styled_reading set text) text_wrong p ↔ StyledWrongAt set text p
  unfolding styled_of
  wrong p =
      Iff.trans (answers text_wrong p (omega arith))
      (Iff.trans (text_wrong_lem (length text) (read_styled set text) styled_limits (λ a. limits_never a.0 a.1 text_wrong (omega arith)) p)
      (wrong_places set text p))

  short : (p : ℕ) → Answers (styled_reading set text) text_short p ↔ (StyledStopsEarly set text × (p ≡ length text))
  unfolding styled_of
  short p =
      Iff.trans (answers text_short p (omega arith))
      (Iff.trans (text_short_lem (length text) (read_styled set text) styled_limits (λ a. limits_never a.0 a.1 text_short (omega arith)) p)
      (Iff.and (short_places set text) Iff.rfl))

  -- 17, 18, 19, 3 AND 4

  over : (k p : ℕ) (Exceeds : Meaning → Spelling → Type 0) → text_short < k → ((m : Meaning) (t : Spelling) → (styled_limits (m, t) ≡ refusal k p) ↔ Exceeds m t)
      → Answers (styled_reading set text) k p ↔ ((m : Meaning) × (t : Spelling) × SaysStyled set text m t × Exceeds m t)
  unfolding styled_of
  over k p Exceeds h g =
      let s = said_exactly (length text) (read_styled set text) styled_limits (λ a. SaysStyled set text a.0 a.1) (λ a. Exceeds a.0 a.1) k p h
      (λ a. (styled_laws set).fines text a.0 a.1) (λ a s. g a.0 a.1) in
      Iff.trans (answers k p (omega arith))
      (λ e. let x = s.0 e in (x.0.0, x.0.1, x.1.0, x.1.1), λ x. s.1 ((x.0, x.1), (x.2, x.3)))

  -- DONE

  says : (m : Meaning) (t : Spelling) → SaysStyled set text m t → Accepted t → length m.prefix ≤ 32 → length m.symbols ≤ 64 → styled_of set text ≡ done (m, t)
  says m t s a p n =
      split_styled set text m t (record { within = record { prefix = p; symbols = n; valid = s.0 }; valid = s.1.0; accepted = a; is = s.1.1 })

  reads : (m : Meaning) (t : Spelling) → SaysStyled set text m t → Accepted t → length m.prefix ≤ 32 → length m.symbols ≤ 64
      → (styled_reading set text ≡ record { number = 0; place = 0; sign = packed set m }) × ((before : List ℕ) → record_left before (styled_of set text) ≡ record_of (meaning t))
  unfolding reading_of
  reads m t s a p n = let e = says m t s a p n in (ap (λ r. reading_of set (on_done (λ k. k.0) r)) e, λ before. ap (record_left before) e)

  accepted : ((styled_reading set text).number ≡ 0)
      ↔ ((m : Meaning) × (t : Spelling) × SaysStyled set text m t × Accepted t × (length m.prefix ≤ 32) × (length m.symbols ≤ 64))
  accepted = (
    λ z.
        let d = styled_means set text z in
        let s = styled_split set text d.0 d.1 in
        (d.0.0, d.0.1, (s.within.valid, (s.valid, s.is)), s.accepted, s.within.prefix, s.within.symbols),
    λ x. ap (λ r. r.number) (reads x.0 x.1 x.2 x.3 x.4 x.5).0,
  )

-- NO OTHER NUMBER

abbrev Given : ℕ → Type 0
Given n = (n ≤ 4) ⊎ Range 17 19 n

module _ (set : Charset) where
  abbrev number : Result (Meaning × Spelling) → ℕ
  number r = (reading_of set (on_done (λ k. k.0) r)).number

  limits_given : (k : Meaning × Spelling) (z n f p s : Bool)
      → Given (number (check z zoom_outside 0 (check n colour_long 0 (check f styles_long 0 (on_done (λ m. (m, k.1)) (check p prefix_long 0 (check s signbox_long 0 (done k.0))))))))
  unfolding reading_of
  limits_given k false n f p s = inr (omega arith, omega arith)
  limits_given k true false f p s = inr (omega arith, omega arith)
  limits_given k true true false p s = inr (omega arith, omega arith)
  limits_given k true true true false s = inl (omega arith)
  limits_given k true true true true false = inl (omega arith)
  limits_given k true true true true true = inl (omega arith)

  outcome_given : (size : ℕ) (o : Outcome (Meaning × Spelling)) → Given (number (and_then (of_outcome size o) styled_limits))
  unfolding reading_of
  outcome_given size (fine k) =
      let m = k.0 in
      let t = k.1 in
      rw (in_order m t) (limits_given k (zooms_good t) (names_good t) (styles_few t) (leb (length m.prefix) 32) (leb (length m.symbols) 64))
  outcome_given size (refused p) = inl (omega arith)
  outcome_given size ends_short = inl (omega arith)

  numbers : (text : List ℕ) → Given (styled_reading set text).number
  unfolding styled_of
  numbers text = outcome_given (length text) (read_styled set text)

pub styled_refusal_laws : (set : Charset) → StyledRefusalLaws set
styled_refusal_laws set = record {
  wrong = wrong set;
  short = short set;
  refuses_zoom = λ text p.
      Iff.trans (over set text zoom_outside p (λ m t. (zooms_good t ≡ false) × (p ≡ 0)) (omega arith) (λ m t. zooms-exceed m t p))
      (λ x. (x.0, x.1, x.2, x.3.0, x.3.1), λ x. (x.0, x.1, x.2, (x.3, x.4)));
  refuses_colour = λ text p.
      Iff.trans (over set text colour_long p (λ m t. (zooms_good t ≡ true) × ((names_good t ≡ false) × (p ≡ 0))) (omega arith) (λ m t. names-exceed m t p))
      (λ x. (x.0, x.1, x.2, x.3.0, x.3.1.0, x.3.1.1), λ x. (x.0, x.1, x.2, (x.3, (x.4, x.5))));
  refuses_styles = λ text p.
      Iff.trans (over set text styles_long p (λ m t. (zooms_good t ≡ true) × ((names_good t ≡ true) × ((styles_few t ≡ false) × (p ≡ 0)))) (omega arith) (λ m t. styles-exceed m t p))
      (λ x. (x.0, x.1, x.2, x.3.0, x.3.1.0, x.3.1.1.0, x.3.1.1.1), λ x. (x.0, x.1, x.2, (x.3, (x.4, (x.5, x.6)))));
  refuses_prefix = λ text p.
      Iff.trans
      (over set text prefix_long p (λ m t. Accepted t × ((32 < length m.prefix) × (p ≡ 0))) (omega arith)
      (λ m t. sign-exceeds m t p prefix_long ((32 < length m.prefix) × (p ≡ 0)) (omega arith) (prefix_exceeds m p)))
      (λ x. (x.0, x.1, x.2, x.3.0, x.3.1.0, x.3.1.1), λ x. (x.0, x.1, x.2, (x.3, (x.4, x.5))));
  refuses_signbox = λ text p.
      Iff.trans
      (over set text signbox_long p (λ m t. Accepted t × ((length m.prefix ≤ 32) × ((64 < length m.symbols) × (p ≡ 0)))) (omega arith)
      (λ m t. sign-exceeds m t p signbox_long ((length m.prefix ≤ 32) × ((64 < length m.symbols) × (p ≡ 0))) (omega arith) (signbox_exceeds m p)))
      (λ x. (x.0, x.1, x.2, x.3.0, x.3.1.0, x.3.1.1.0, x.3.1.1.1), λ x. (x.0, x.1, x.2, (x.3, (x.4, (x.5, x.6)))));
  accepted = accepted set;
  reads = reads set;
  numbers = numbers set;
}
