-- A text that is wrong at an offset, or elsewhere.
use Prim.Native.Nat.{ℕ}
use mathlib.Core.Path.{◌≡◌, refl, sym, ap, ◌∙◌}
use mathlib.Core.Bool.{Bool, true, false, true≢false}
use borrow.Author.Tests.{eq-eqb, eqb-true}
use Rattle.token.specs.declared.refusal.Refusal.{Refusal}
use Rattle.token.specs.declared.refusal.Refusal.TheVariants.{TextWrong, TextShort, PrefixLong, SignboxLong, RangeReversed, RoomShort, SizesLength, SymbolUnsized, NoSymbols, NumberOutside, ListWrong, DictionaryUnended, LineWrong, TooMany, CodeWrong, EntryAbsent, ZoomOutside, ColourLong, StylesLong, AlternativesLong}
use Rattle.token.specs.Refusal.{wrong_at}

pub is_wrong : (at : ℕ) (r : Refusal) → true ≡ wrong_at at r → r ≡ TextWrong at
is_wrong at (TextWrong p) h = ap TextWrong (eqb-true p at (sym h))
is_wrong at _ h = absurd (true≢false h)

pub not_wrong : (at : ℕ) (r : Refusal) → false ≡ wrong_at at r → r ≡ TextWrong at → ⊥
not_wrong at r h e = true≢false (sym (eq-eqb at at refl) ∙ sym (ap (wrong_at at) e) ∙ sym h)
