-- No refusal has the number 0, which is that of what is done.
use Prim.Native.Nat.{ℕ}
use mathlib.Core.Path.{◌≡◌}
use native.Mathlib.Omega.{arith}
use Rattle.token.specs.declared.refusal.Refusal.{Refusal}
use Rattle.token.specs.declared.refusal.Refusal.TheVariants.{TextWrong, TextShort, PrefixLong, SignboxLong, RangeReversed, RoomShort, SizesLength, SymbolUnsized, NoSymbols, NumberOutside, ListWrong, DictionaryUnended, LineWrong, TooMany, CodeWrong, EntryAbsent, ZoomOutside, ColourLong, StylesLong, AlternativesLong}
use Rattle.token.specs.Refusal.{number_of}

pub counted : (e : Refusal) → number_of e ≡ 0 → ⊥
counted (TextWrong p) z = absurd (omega arith)
counted (TextShort p) z = absurd (omega arith)
counted PrefixLong z = absurd (omega arith)
counted SignboxLong z = absurd (omega arith)
counted (RangeReversed p) z = absurd (omega arith)
counted (RoomShort p) z = absurd (omega arith)
counted SizesLength z = absurd (omega arith)
counted (SymbolUnsized p) z = absurd (omega arith)
counted NoSymbols z = absurd (omega arith)
counted NumberOutside z = absurd (omega arith)
counted ListWrong z = absurd (omega arith)
counted DictionaryUnended z = absurd (omega arith)
counted (LineWrong p) z = absurd (omega arith)
counted TooMany z = absurd (omega arith)
counted CodeWrong z = absurd (omega arith)
counted EntryAbsent z = absurd (omega arith)
counted ZoomOutside z = absurd (omega arith)
counted ColourLong z = absurd (omega arith)
counted StylesLong z = absurd (omega arith)
counted AlternativesLong z = absurd (omega arith)
