use Rattle.charset.specs.Tokens.{tokens}
use Rattle.part.proofs.Spelling.{point_sure}
use Rattle.part.proofs.quick.point_after.Goals as goal

pub returns : goal.returns
returns c = point_sure _ (tokens c.args.set) _ _ _ _ (c.number.ensures.is _ c.in_ok-x.was) (rw (← c.number_size.ensures) (c.second.ensures.is _ c.in_ok-y.was))
