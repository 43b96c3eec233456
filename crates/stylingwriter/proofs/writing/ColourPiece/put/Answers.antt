use Rattle.writer.proofs.Writes.{wrote_more}
use Rattle.stylingwriter.proofs.writing.ColourPiece.put.Goals as goal

pub returns-clause-wrote : goal.returns-clause-wrote
returns-clause-wrote c = wrote_more c.put_byte-first.ensures (wrote_more c.put_colour-last.ensures.wrote c.put_byte.ensures)
