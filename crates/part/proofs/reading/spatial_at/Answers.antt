use Rattle.charset.specs.Tokens.{tokens}
use Rattle.charset.proofs.Sets.{lawful}
use Rattle.grammar.proofs.Sign.{spatial_fixed}
use Rattle.part.proofs.Placing.{sure_placed}
use Rattle.part.proofs.reading.spatial_at.Goals as goal

pub returns : goal.returns
returns c = sure_placed _ _ _ (spatial_fixed (tokens c.args.set) (lawful c.args.set)) _ _ _ _ c.spatial_at.ensures c.in-Some.is
