-- What is proved of signs with a styling.
use Rattle.std.specs.Prelude.{ℕ, suc, ◌≡◌, List, ◌∷◌, ◌++◌, ◌⊎◌, ◌↔◌, ltb, length}
use Rattle.format.specs.Format.{Format, choose}
use Rattle.format.specs.Places.{Begins, Outcome, fine, refused, ends_short, Means, Unfinished}
use Rattle.format.specs.Numbers.{Place}
use Rattle.charset.specs.declared.Charset.{Charset}
use Rattle.charset.specs.declared.Charset.TheVariants.{Fsw, Swu}
use Rattle.charset.specs.Tokens.{fsw_number, tokens}
use Rattle.grammar.specs.Sign.{Meaning, Valid, sign, sign_text, read_sign}
use Rattle.grammar.specs.SignLaws.{SignNumber}
use Rattle.stylinggrammar.specs.Styling.{Spelling, styling}
use Rattle.stylinggrammar.specs.Styled.{styled, read_both, read_styled}

-- a dash after a whole sign
pub record Dashed {A : Type 0} (f : Format A) (text : List ℕ) : Type 0 where
  pub says : A
  pub valid : f.Valid says
  pub after : List ℕ
  pub is : text ≡ f.write says ++ (45 ∷ after)

-- THE LAW OF PLACES. In FSW it is that of document 01, byte by byte, and Q-5's in the numbers of the sign alone.
pub record FswPlaces : Type 0 where
  pub stands : (x : List ℕ) → SignNumber x → (n : ℕ) → fsw_number.Valid n → Begins (styled (sign Fsw)) (x ++ fsw_number.write n)
  pub wrong : (text : List ℕ) (p : ℕ) → (read_styled Fsw text ≡ refused p) ↔ Place (styled (sign Fsw)) SignNumber text p
  pub short : (text : List ℕ) → (read_styled Fsw text ≡ ends_short) ↔ Unfinished (styled (sign Fsw)) text

-- Elsewhere it goes by bytes where a dash follows a whole sign, and otherwise by units of w bytes (see Means).
pub record Mixed {A : Type 0} (w : ℕ) (f : Format A) : Type 0 where
  pub bytes : (text : List ℕ) (o : Outcome (A × Spelling)) → Dashed f text → (read_both w f text ≡ o) ↔ Means 1 (styled f) text o
  pub units : (text : List ℕ) (o : Outcome (A × Spelling)) → (Dashed f text → ⊥) → (read_both w f text ≡ o) ↔ Means w (styled f) text o
  pub cases : (text : List ℕ) → Dashed f text ⊎ (Dashed f text → ⊥)

abbrev pub StyledPlaces : Charset → Type 0
StyledPlaces Fsw = FswPlaces
StyledPlaces Swu = Mixed 4 (sign Swu)

pub record StyledLaws (set : Charset) : Type 0 where
  -- what is read is a sign and a styling, one written after the other
  pub fines : (text : List ℕ) (m : Meaning) (t : Spelling)
      → (read_styled set text ≡ fine (m, t)) ↔ (Valid m × (styling.Valid t × (text ≡ sign_text set m ++ styling.write t)))
  pub places : StyledPlaces set
  -- the plain reader refuses the dash after a whole sign: as 1 there, or as 2 where less than a unit is left
  pub plain : (m : Meaning) → Valid m → (after : List ℕ)
      → read_sign set (sign_text set m ++ (45 ∷ after)) ≡ choose (ltb (suc (length after)) (tokens set).unit) ends_short (refused (length (sign_text set m)))
