-- A move by zero changes nothing.
use Prim.Native.Nat.{ℕ}
use mathlib.Core.Path.{◌≡◌, refl, sym, ap, ◌∙◌}
use mathlib.Core.Bool.{true}
use mathlib.Core.List.{List, [], ◌∷◌, map}
use borrow.Author.Tests.{le-leb}
use lib.IntN.{pos, nat_abs, +ℤ_idr}
use Rattle.format.specs.Format.{All, every}
use Rattle.charset.specs.declared.Charset.{Charset}
use Rattle.grammar.specs.Sign.{Spatial, Meaning, Number, Valid, ValidSymbol, sign_text}
use Rattle.token.specs.Result.{done, on_done, and_then}
use Rattle.reader.specs.Signs.{sign_of}
use Rattle.sign.proofs.Packed.{sign_within, sign_reads}
use Rattle.moving.specs.Moves.{moved_number, is_number, stays, moved_symbol, moved_sign, shifted_text}
use Rattle.moving.proofs.Signs.{sign_moves}

number_stays : (n : ℕ) → Number n → stays (pos 0) n ≡ true
number_stays n h = ap is_number (+ℤ_idr (pos n)) ∙ inside
  where
    inside : is_number (pos n) ≡ true
    inside = rw (le-leb 250 n h.0, le-leb n 749 h.1)

number_unmoved : (n : ℕ) → moved_number (pos 0) n ≡ n
number_unmoved n = ap nat_abs (+ℤ_idr (pos n))

numbers_stay : (of : Spatial → ℕ) → ((s : Spatial) → ValidSymbol s → Number (of s)) → (l : List Spatial) → All ValidSymbol l → every (stays (pos 0)) (map of l) ≡ true
numbers_stay of number [] ok = refl
numbers_stay of number (s ∷ l) ok = rw (number_stays (of s) (number s ok.0), numbers_stay of number l ok.1)

first_stays : (n : ℕ) (l : List ℕ) → Number n → every (stays (pos 0)) l ≡ true → every (stays (pos 0)) (n ∷ l) ≡ true
first_stays n l h k = rw (number_stays n h, k)

symbols_unmoved : (l : List Spatial) → map (moved_symbol (pos 0) (pos 0)) l ≡ l
symbols_unmoved [] = refl
symbols_unmoved (s ∷ l) = λ i. record { code = s.code; x = number_unmoved s.x i; y = number_unmoved s.y i } ∷ symbols_unmoved l i

pub unmoved : (m : Meaning) → Valid m → moved_sign (pos 0) (pos 0) m ≡ done m
unmoved m v =
    sign_moves (pos 0) (pos 0) m
    (first_stays m.x (map (λ s. s.x) m.symbols) v.maximum.0 (numbers_stay (λ s. s.x) (λ s h. h.1.0) m.symbols v.symbols))
    (first_stays m.y (map (λ s. s.y) m.symbols) v.maximum.1 (numbers_stay (λ s. s.y) (λ s h. h.1.1) m.symbols v.symbols))
    ∙ (λ i. done (record {
      prefix = m.prefix;
      marker = m.marker;
      x = number_unmoved m.x i;
      y = number_unmoved m.y i;
      symbols = symbols_unmoved m.symbols i;
    }))

pub still : (set : Charset) (text : List ℕ) (m : Meaning) → sign_of set text ≡ done m → shifted_text set text (pos 0) (pos 0) ≡ done text
unfolding shifted_text
still set text m e =
    ap (λ r. on_done (sign_text set) (and_then r (moved_sign (pos 0) (pos 0)))) e
    ∙ ap (on_done (sign_text set)) (unmoved m (sign_within set text m e).valid)
    ∙ ap done (sym (sign_reads set text m e))
