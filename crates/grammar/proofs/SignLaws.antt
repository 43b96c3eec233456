-- The laws of signs, from the laws of every format.
use Prim.Native.Nat.{ℕ}
use mathlib.Core.List.{List}
use mathlib.Core.Path.{◌≡◌, refl, sym, ap, ◌∙◌}
use mathlib.Core.Logic.{◌↔◌}
use Rattle.format.specs.Places.{fine}
use Rattle.format.proofs.Reading.{fine_exactly, same_fine}
use Rattle.format.proofs.Places.{exactly}
use Rattle.charset.specs.declared.Charset.{Charset}
use Rattle.charset.specs.declared.Charset.TheVariants.{Fsw, Swu}
use Rattle.charset.specs.Tokens.{tokens}
use Rattle.grammar.specs.Sign.{Meaning, Valid, sign, sign_text, read_sign}
use Rattle.grammar.specs.SignLaws.{SignPlaces, SignLaws}
use Rattle.grammar.proofs.Sign.{sign_lawful, sign_ready}
use Rattle.grammar.proofs.ExactSign.{sign_exact}
use Rattle.grammar.proofs.SignPlaces.{fsw_places}

pub sign_fine : (set : Charset) (text : List ℕ) (m : Meaning) → (read_sign set text ≡ fine m) ↔ (Valid m × (text ≡ sign_text set m))
sign_fine set = fine_exactly (tokens set).unit (sign set) (sign_lawful set) (sign_ready set)

reads : (set : Charset) (m : Meaning) → Valid m → read_sign set (sign_text set m) ≡ fine m
reads set m ok = (sign_fine set (sign_text set m) m).1 (ok, refl)

places : (set : Charset) → SignPlaces set
places Fsw = fsw_places
places Swu = exactly 4 (sign Swu) (sign_exact Swu) (sign_ready Swu)

pub sign_laws : (set : Charset) → SignLaws set
sign_laws set = record {
  reads = reads set;
  writes = λ text m e. (sign_fine set text m).0 e;
  one = λ m k a b e. same_fine (sym (reads set m a) ∙ ap (read_sign set) e ∙ reads set k b);
  places = places set;
}
