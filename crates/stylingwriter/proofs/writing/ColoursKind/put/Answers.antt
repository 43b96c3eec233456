use Rattle.writer.proofs.Writes.{wrote_more}
use Rattle.stylingwriter.proofs.writing.ColoursKind.put.Goals as goal

pub returns-in-Coloured-clause-wrote : goal.returns-in-Coloured-clause-wrote
returns-in-Coloured-clause-wrote c = rw c.in-Coloured.is (wrote_more c.put_byte-letter.ensures (wrote_more c.put-next.ensures.wrote c.put.ensures.wrote))
