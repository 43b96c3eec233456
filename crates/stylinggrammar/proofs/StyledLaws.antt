-- The laws of styled texts, in both character sets.
use native.Mathlib.Omega.{arith}
use Rattle.charset.specs.declared.Charset.{Charset}
use Rattle.charset.specs.declared.Charset.TheVariants.{Fsw, Swu}
use Rattle.charset.specs.Tokens.{tokens}
use Rattle.grammar.specs.Sign.{Meaning, Valid, sign, sign_text}
use Rattle.grammar.proofs.Sign.{sign_lawful}
use Rattle.grammar.proofs.SignLaws.{sign_laws, sign_fine}
use Rattle.stylinggrammar.specs.StyledLaws.{StyledPlaces, StyledLaws}
use Rattle.grammar.proofs.SignBytes.{sign_over}
use Rattle.stylinggrammar.proofs.Dashes.{Plain, over_plain}
use Rattle.stylinggrammar.proofs.Mixed.{both_fines, mixed}
use Rattle.stylinggrammar.proofs.FswPlaces.{fsw_styled}
use Rattle.stylinggrammar.proofs.Plain.{plain_refused}

pub sign_plain : (set : Charset) (m : Meaning) → Valid m → Plain (sign_text set m)
sign_plain set m ok = over_plain (sign_text set m) (sign_over set m)

places : (set : Charset) → StyledPlaces set
places Fsw = fsw_styled
places Swu = mixed 4 (sign Swu) (sign_laws Swu).places (omega arith) (sign_lawful Swu).whole (sign_plain Swu)

pub styled_laws : (set : Charset) → StyledLaws set
styled_laws set = record {
  fines = both_fines (tokens set).unit (sign set) (sign_fine set) (sign_plain set);
  places = places set;
  plain = plain_refused set;
}
