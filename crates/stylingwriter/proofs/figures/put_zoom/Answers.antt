use Rattle.writer.proofs.Writes.{wrote_more}
use Rattle.stylingwriter.proofs.figures.put_zoom.Goals as goal

pub returns-clause-wrote : goal.returns-clause-wrote
returns-clause-wrote c = wrote_more c.put_wholes-next.ensures.wrote c.put_cents.ensures.wrote
