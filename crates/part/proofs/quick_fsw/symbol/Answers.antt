use Rattle.std.proofs.Common.{arith}
use Rattle.std.proofs.lemmas.Grind.{common_steps}
use Rattle.charset.specs.Bytes.{digit_of}
use Rattle.part.specs.Inner.{digit_or}
use Rattle.part.proofs.quick_fsw.symbol.Goals as goal

pub returns : goal.returns
unfolding digit_or digit_of
returns c = grind (arith, common_steps)
