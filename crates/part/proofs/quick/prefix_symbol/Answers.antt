use Rattle.part.proofs.Prefixes.{prefix_sure}
use Rattle.part.proofs.quick.prefix_symbol.Goals as goal

pub returns : goal.returns
returns c = prefix_sure _ _ _ _ c.symbol.ensures
