-- The law of places of styled texts in FSW, from those of the sign and of the styling: no number stands at a dash or after it.
use Prim.Native.Nat.{ℕ, zero, suc, ◌+◌, ◌-◌, ◌≤◌, ◌<◌}
use mathlib.Core.List.{List, [], ◌∷◌, ◌++◌, append-nil}
use mathlib.Core.Path.{◌≡◌, refl, sym, ap, subst, ◌∙◌}
use mathlib.Core.Bool.{Bool, true, false}
use mathlib.Core.Logic.{◌⊎◌, inl, inr, ◌↔◌}
use lib.Dec.{ltb}
use lib.ListN.{length, take, drop}
use lib.Seq.{take_all}
use native.Mathlib.Omega.{arith}
use borrow.Author.Tests.{ltb-true, ltb-false}
use Rattle.format.specs.Format.{All}
use Rattle.format.specs.Numeral.{Range}
use Rattle.format.specs.Places.{Begins, Outcome, fine, refused, ends_short, reading, FirstWrong, Unfinished}
use Rattle.format.specs.Numbers.{InNumber, Place, stays, moves}
use Rattle.format.proofs.Places.{begins_less, refused_bytes, short_bytes}
use Rattle.charset.specs.declared.Charset.TheVariants.{Fsw}
use Rattle.charset.specs.Tokens.{fsw_number}
use Rattle.grammar.specs.Sign.{Meaning, Valid, sign, sign_text}
use Rattle.grammar.specs.SignLaws.{SignNumber}
use Rattle.grammar.proofs.SignLaws.{sign_fine}
use Rattle.grammar.proofs.SignPlaces.{fsw_places}
use Rattle.stylinggrammar.specs.Styling.{Spelling}
use Rattle.stylinggrammar.specs.Styled.{styled, undashed, read_styled}
use Rattle.stylinggrammar.specs.StyledLaws.{Dashed, FswPlaces}
use Rattle.grammar.proofs.SignBytes.{sign_over}
use Rattle.stylinggrammar.proofs.Dashes.{Plain, over_plain, reads_undashed, dash_case}
use Rattle.stylinggrammar.proofs.Begun.{sign_begins, dash_begins, front_take, begins_sign, undashed_unformed}
use Rattle.stylinggrammar.proofs.Mixed.{bytes_exactly}

fines : (text : List ℕ) (m : Meaning) → (reading 1 (sign Fsw) text ≡ fine m) ↔ (Valid m × (text ≡ sign_text Fsw m))
fines = sign_fine Fsw

plain : (m : Meaning) → Valid m → Plain (sign_text Fsw m)
plain m ok = over_plain (sign_text Fsw m) (sign_over Fsw m)

-- NUMBERS AND DASHES

pub plain_front : (a b : List ℕ) → Plain (a ++ b) → Plain a
plain_front [] b p = tt
plain_front (x ∷ a) b p = (p.0, plain_front a b p.1)

-- more than a has a dash in it
pub not_plain : (a b : List ℕ) (s : ℕ) → length a < s → Plain (take s (a ++ (45 ∷ b))) → ⊥
not_plain [] b zero h p = omega arith
not_plain [] b (suc s) h p = p.0 refl
not_plain (x ∷ a) b zero h p = omega arith
not_plain (x ∷ a) b (suc s) h p = not_plain a b s (omega arith) p.1

-- a dash is no digit
not_digits : (a b : List ℕ) (s n : ℕ) → s ≤ length a → length a < s + n → All (Range 48 57) (take n (drop s (a ++ (45 ∷ b)))) → ⊥
not_digits [] b zero zero h k d = omega arith
not_digits [] b zero (suc n) h k d = omega (arith, d.0.0)
not_digits [] b (suc s) n h k d = omega arith
not_digits (x ∷ a) b zero zero h k d = omega arith
not_digits (x ∷ a) b zero (suc n) h k d = not_digits a b zero n (omega arith) (omega arith) d.1
not_digits (x ∷ a) b (suc s) n h k d = not_digits a b s n (omega arith) (omega arith) d

-- what stands before a number has no dash in it
number_plain : (x : List ℕ) → SignNumber x → Plain x
number_plain x n =
    let b = fsw_places.stands x n 250 (omega arith, omega arith) in
    plain_front x (fsw_number.write 250)
    (plain_front (x ++ fsw_number.write 250) b.more (rw b.is at (plain b.says b.valid)))

module _ (text : List ℕ) (d : Dashed (sign Fsw) text) where
  abbrev i : ℕ
  i = length (sign_text Fsw d.says)

  dash_there : Begins (styled (sign Fsw)) (take (i + 1) text)
  dash_there =
      rw (ap (take (i + 1)) d.is ∙ front_take (sign Fsw) plain d.says d.valid (45 ∷ d.after) 1)
      (dash_begins (sign Fsw) plain d.says d.valid)

  -- so the place is behind the dash, and in no number
  behind : (q : ℕ) → FirstWrong (styled (sign Fsw)) text q → i < q
  behind q w = go (ltb i q) refl
    where
      go : (t : Bool) → ltb i q ≡ t → i < q
      go true e = ltb-true i q e
      go false e =
          let k : q ≤ i = ltb-false i q e in
          absurd (w.never (begins_less (styled (sign Fsw)) text (q + 1) (i + 1) (omega arith) dash_there))

  no_number_go : (s q : ℕ) → i < q → InNumber SignNumber text s q → (t : Bool) → ltb i s ≡ t → ⊥
  no_number_go s q h n true e =
      not_plain (sign_text Fsw d.says) d.after s (ltb-true i s e) (subst (λ (u : List ℕ). Plain (take s u)) d.is (number_plain (take s text) n.number))
  no_number_go s q h n false e =
      not_digits (sign_text Fsw d.says) d.after s (q - s) (ltb-false i s e) (omega arith) (subst (λ (u : List ℕ). All (Range 48 57) (take (q - s) (drop s u))) d.is n.digits)

  no_number : (s q : ℕ) → FirstWrong (styled (sign Fsw)) text q → InNumber SignNumber text s q → ⊥
  no_number s q w n = no_number_go s q (behind q w) n (ltb i s) refl

  place_go : (p : ℕ) → Place (styled (sign Fsw)) SignNumber text p → FirstWrong (styled (sign Fsw)) text p
  place_go p (stays w n) = w
  place_go p (moves q w n) = absurd (no_number p q w n)

  dashed_wrong : (p : ℕ) → (read_styled Fsw text ≡ refused p) ↔ Place (styled (sign Fsw)) SignNumber text p
  dashed_wrong p =
      let k = bytes_exactly 1 (sign Fsw) fines plain text (refused p) d in
      let b = refused_bytes (styled (sign Fsw)) text p in (
        λ e. let w = b.0 (k.0 e) in stays w (λ s n. no_number s p w n),
        λ w. k.1 (b.1 (place_go p w)),
      )

  dashed_short : (read_styled Fsw text ≡ ends_short) ↔ Unfinished (styled (sign Fsw)) text
  dashed_short =
      let k = bytes_exactly 1 (sign Fsw) fines plain text ends_short d in
      let b = short_bytes (styled (sign Fsw)) text in
      (λ e. b.0 (k.0 e), λ u. k.1 (b.1 u))

module _ (text : List ℕ) (never : Dashed (sign Fsw) text → ⊥) where
  reads_as : read_styled Fsw text ≡ undashed (reading 1 (sign Fsw) text)
  reads_as = reads_undashed 1 (sign Fsw) fines plain text never

  to_styled : (p : ℕ) → FirstWrong (sign Fsw) text p → FirstWrong (styled (sign Fsw)) text p
  to_styled p w = record { begins = sign_begins (sign Fsw) plain (take p text) w.begins; never = λ b. w.never (begins_sign (sign Fsw) plain text never (p + 1) b) }

  to_sign : (p : ℕ) → FirstWrong (styled (sign Fsw)) text p → FirstWrong (sign Fsw) text p
  to_sign p w = record { begins = begins_sign (sign Fsw) plain text never p w.begins; never = λ b. w.never (sign_begins (sign Fsw) plain (take (p + 1) text) b) }

  place_styled : (p : ℕ) → Place (sign Fsw) SignNumber text p → Place (styled (sign Fsw)) SignNumber text p
  place_styled p (stays w n) = stays (to_styled p w) n
  place_styled p (moves q w n) = moves q (to_styled q w) n

  place_sign : (p : ℕ) → Place (styled (sign Fsw)) SignNumber text p → Place (sign Fsw) SignNumber text p
  place_sign p (stays w n) = stays (to_sign p w) n
  place_sign p (moves q w n) = moves q (to_sign q w) n

  undashed_refused : (o : Outcome Meaning) (p : ℕ) → undashed o ≡ refused p → o ≡ refused p
  undashed_refused (fine m) p e = absurd (let z : ◌≡◌ {A = ℕ} 0 1 = cc in omega arith)
  undashed_refused (refused q) p e = ap refused (same e)
    where
      same : ◌≡◌ {A = Outcome (Meaning × Spelling)} (refused q) (refused p) → q ≡ p
      same e = cc
  undashed_refused ends_short p e = absurd (let z : ◌≡◌ {A = ℕ} 0 1 = cc in omega arith)

  undashed_wrong : (p : ℕ) → (read_styled Fsw text ≡ refused p) ↔ Place (styled (sign Fsw)) SignNumber text p
  undashed_wrong p = (
    λ e. place_styled p ((fsw_places.wrong text p).0 (undashed_refused (reading 1 (sign Fsw) text) p (sym reads_as ∙ e))),
    λ w. reads_as ∙ ap undashed ((fsw_places.wrong text p).1 (place_sign p w)),
  )

  -- a text that begins a sign is refused nowhere
  all_begun : Begins (styled (sign Fsw)) text → Begins (sign Fsw) (take (length text) text)
  all_begun b = begins_sign (sign Fsw) plain text never (length text) (rw (take_all (length text) text (omega arith)) b)

  not_first : Begins (sign Fsw) (take (length text) text) → (p : ℕ) → FirstWrong (sign Fsw) text p → ⊥
  not_first b p w =
      let k = (refused_bytes (sign Fsw) text p).1 w in
      w.never (begins_less (sign Fsw) text (p + 1) (length text) k.inside b)

  not_placed : Begins (sign Fsw) (take (length text) text) → (p : ℕ) → Place (sign Fsw) SignNumber text p → ⊥
  not_placed b p (stays w n) = not_first b p w
  not_placed b p (moves q w n) = not_first b q w

  short_go : (o : Outcome Meaning) → reading 1 (sign Fsw) text ≡ o → undashed o ≡ ends_short → Begins (sign Fsw) text
  short_go (fine m) e z = let k = (fines text m).0 e in record { says = m; valid = k.0; more = []; is = sym (append-nil text ∙ k.1) }
  short_go (refused p) e z = absurd (let z : ◌≡◌ {A = ℕ} 0 1 = cc in omega arith)
  short_go ends_short e z = ((fsw_places.short text).0 e).0

  ends_go : Begins (sign Fsw) (take (length text) text) → (o : Outcome Meaning) → reading 1 (sign Fsw) text ≡ o → undashed o ≡ ends_short
  ends_go b (fine m) e = refl
  ends_go b (refused p) e = absurd (not_placed b p ((fsw_places.wrong text p).0 e))
  ends_go b ends_short e = refl

  undashed_short : (read_styled Fsw text ≡ ends_short) ↔ Unfinished (styled (sign Fsw)) text
  undashed_short = (
    λ e. (sign_begins (sign Fsw) plain text (short_go (reading 1 (sign Fsw) text) refl (sym reads_as ∙ e)), undashed_unformed (sign Fsw) plain text never),
    λ u. reads_as ∙ ends_go (all_begun u.0) (reading 1 (sign Fsw) text) refl,
  )

pub fsw_styled : FswPlaces
fsw_styled = record {
  stands = λ x k n ok. sign_begins (sign Fsw) plain (x ++ fsw_number.write n) (fsw_places.stands x k n ok);
  wrong = λ text p. wrong_go text p (dash_case 1 (sign Fsw) fines plain text);
  short = λ text. short-case text (dash_case 1 (sign Fsw) fines plain text);
}
  where
    wrong_go : (text : List ℕ) (p : ℕ) → Dashed (sign Fsw) text ⊎ (Dashed (sign Fsw) text → ⊥) → (read_styled Fsw text ≡ refused p) ↔ Place (styled (sign Fsw)) SignNumber text p
    wrong_go text p (inl d) = dashed_wrong text d p
    wrong_go text p (inr n) = undashed_wrong text n p

    short-case : (text : List ℕ) → Dashed (sign Fsw) text ⊎ (Dashed (sign Fsw) text → ⊥) → (read_styled Fsw text ≡ ends_short) ↔ Unfinished (styled (sign Fsw)) text
    short-case text (inl d) = dashed_short text d
    short-case text (inr n) = undashed_short text n
