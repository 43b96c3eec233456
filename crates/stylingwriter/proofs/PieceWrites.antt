-- The pieces of a styling, written one after the other, are its text.
use Prim.Native.Nat.{ℕ, zero, suc, ◌≤◌, min}
use mathlib.Core.Path.{◌≡◌, refl, sym, ap, ◌∙◌}
use mathlib.Core.List.{List, [], ◌∷◌}
use mathlib.Core.Option.{Option}
use lib.ListN.{length}
use Rattle.std.specs.Prelude.{Option as Given, Some, None}
use Rattle.format.specs.Format.{Format, optional}
use Rattle.charset.specs.Bytes.{after}
use Rattle.token.specs.Wrote.{Wrote}
use Rattle.writer.proofs.Writes.{wrote_none, wrote_more, wrote_as}
use Rattle.stylinggrammar.specs.Styling.{decimal}
use Rattle.stylinggrammar.specs.Meaning.{Styling, given, decimal_of, styling_text}
use Rattle.stylinggrammar.specs.Record.{number_at, styles_from, styling_in}
use Rattle.stylingwriter.specs.Held.{given_as}
use Rattle.stylingwriter.specs.Pieces.{given_text, colorize_text, padding_text, background_text, detail_text, zoom_text, symbols_text, colours_text, zooms_text}

-- a piece after its letter is what an optional format writes
module _ {A B : Type 0} (f : Format B) (letter : ℕ) (g : A → B) where
  given_is : (piece : Given A) → given_text letter (λ a. f.write (g a)) piece ≡ (optional (after letter f)).write (given_as g piece)
  given_is None = refl
  given_is (Some a) = refl

  pub given_put : (piece : Given A) {held : Option B} {o p : List ℕ} {a r : ℕ} → given_as g piece ≡ held → Wrote o p a r (given_text letter (λ a. f.write (g a)) piece)
      → Wrote o p a r ((optional (after letter f)).write held)
  given_put piece e w = wrote_as w (given_is piece ∙ ap (optional (after letter f)).write e)

given_both : {A B C : Type 0} (h : B → C) (g : A → B) (piece : Given A) → given_as (λ a. h (g a)) piece ≡ given h (given_as g piece)
given_both h g None = refl
given_both h g (Some a) = refl

-- a zoom, in hundredths
pub zoom_put : {A : Type 0} (g : A → ℕ) (piece : Given A) {held : Option ℕ} {o p : List ℕ} {a r : ℕ} → given_as g piece ≡ held
    → Wrote o p a r (given_text 90 (λ a. decimal.write (decimal_of (g a))) piece) → Wrote o p a r ((optional (after 90 decimal)).write (given decimal_of held))
zoom_put g piece e w = given_put decimal 90 (λ a. decimal_of (g a)) piece (given_both decimal_of g piece ∙ ap (given decimal_of) e) w

-- SYMBOLS

pub symbols_none : (w o : List ℕ) {a n : ℕ} → n ≡ min 64 (number_at w 4) → n ≡ 0 → a ≤ length o → Wrote o o a a (symbols_text (styling_in w))
unfolding styling_in
symbols_none w o {a} e z h = rw (sym e ∙ z) (wrote_none o a h)

symbols_some : (w : List ℕ) {o p q s : List ℕ} {a r t u : ℕ} (n : ℕ) → min 64 (number_at w 4) ≡ n → (n ≡ 0 → ⊥) → Wrote o p a r (45 ∷ [])
    → Wrote p q r t (colours_text (styles_from w 0 n)) → Wrote q s t u (zooms_text (styles_from w 0 n)) → Wrote o s a u (symbols_text (styling_in w))
unfolding styling_in
symbols_some w zero e z dash colours zooms = absurd (z refl)
symbols_some w (suc n) e z dash colours zooms = rw e (wrote_more dash (wrote_more colours zooms))

pub symbols_put : (w : List ℕ) {o p q s : List ℕ} {a r t u n : ℕ} → n ≡ min 64 (number_at w 4) → (n ≡ 0 → ⊥) → Wrote o p a r (45 ∷ [])
    → Wrote p q r t (colours_text (styles_from w 0 n)) → Wrote q s t u (zooms_text (styles_from w 0 n)) → Wrote o s a u (symbols_text (styling_in w))
symbols_put w {n = n} e z dash colours zooms = symbols_some w n (sym e) z dash colours zooms

-- ALL OF IT

pub styling_put : (s : Styling) {o p q x y z k l : List ℕ} {a b c d e f g h : ℕ} → Wrote o p a b (45 ∷ []) → Wrote p q b c (colorize_text s) → Wrote q x c d (padding_text s)
    → Wrote x y d e (background_text s) → Wrote y z e f (detail_text s) → Wrote z k f g (zoom_text s) → Wrote k l g h (symbols_text s) → Wrote o l a h (styling_text s)
styling_put s dash colorize padding background detail zoom symbols =
    wrote_more dash (wrote_more colorize (wrote_more padding (wrote_more background (wrote_more detail (wrote_more zoom symbols)))))
