use Rattle.dictionary.specs.Inner.{narrowed_text}
use Rattle.dictionary.specs.Narrowing.{narrowed_sorted}
use Rattle.dictionary.proofs.narrow_sorted.Goals as goal

pub returns : goal.returns
unfolding narrowed_sorted narrowed_text
returns c = c.narrow_as.ensures
