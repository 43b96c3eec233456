-- The laws of the words of a query.
use mathlib.Core.Path.{◌≡◌, sym, ◌∙◌}
use mathlib.Core.Bool.{Bool, true}
use mathlib.Core.Logic.{◌↔◌}
use Rattle.matching.specs.WordsLaws.{WordsLaws}
use Rattle.matching.proofs.Deciding.{Decides, one_decides, serves_decides}
use Rattle.matching.proofs.Numbers.{item_means}
use Rattle.matching.proofs.Words.{fits_row_lem, serves_row}
use Rattle.matching.proofs.Laying.{laid, verdict}

decided : {s t : Bool} {P : Type 0} → s ≡ t → Decides t P → (s ≡ true) ↔ P
decided e d = (λ h. d.sound (sym e ∙ h), λ p. e ∙ d.complete p)

pub words_laws : WordsLaws
words_laws = record {
  item = item_means;
  fits = λ words at s rest code e v. decided (fits_row_lem words at s rest e v code) (one_decides s.alternatives code);
  serves = λ words at variance s rest symbol e v. decided (serves_row words at s rest e v variance symbol) (serves_decides variance s symbol);
  laid = λ q n few few-items room. laid q n room few few-items;
  verdict = verdict;
}
