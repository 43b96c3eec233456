use Rattle.charset.specs.Tokens.{tokens, last_writing}
use Rattle.part.proofs.Spelling.{placed_sure}
use Rattle.part.proofs.quick.spatial_at.Goals as goal

pub returns : goal.returns
returns c =
    placed_sure _ (tokens c.args.set) (tokens c.args.set).symbol_size ((tokens c.args.set).symbol last_writing) _ _ _ (c.symbol.ensures.is _ c.in_ok-value.was)
    (rw (← c.symbol_size.ensures) c.point_after.ensures)
