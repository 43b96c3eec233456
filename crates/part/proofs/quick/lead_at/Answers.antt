use Rattle.charset.specs.Tokens.{tokens}
use Rattle.part.proofs.Spelling.{placed_sure}
use Rattle.part.proofs.quick.lead_at.Goals as goal

pub returns : goal.returns
returns c =
    placed_sure _ (tokens c.args.set) (tokens c.args.set).marker_size ((tokens c.args.set).marker 1 4) _ _ _ (c.marker.ensures.is _ c.in_ok-value.was)
    (rw (← c.marker_size.ensures) c.point_after.ensures)
