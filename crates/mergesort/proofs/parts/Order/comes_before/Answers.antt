use Rattle.mergesort.proofs.Halves.{placed_is}
use Rattle.mergesort.proofs.parts.Order.comes_before.Goals as goal

pub returns : goal.returns
returns c = placed_is _ _ _ _ _ _ c.of-i.ensures c.of-j.ensures c.prefix_before.ensures
