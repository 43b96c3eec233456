use Rattle.dictionary.specs.Inner.{narrowed_text}
use Rattle.dictionary.specs.Narrowing.{narrowed}
use Rattle.dictionary.proofs.narrow.Goals as goal

pub returns : goal.returns
unfolding narrowed narrowed_text
returns c = c.narrow_as.ensures
