use Rattle.writer.proofs.Writes.{wrote_more}
use Rattle.stylingwriter.proofs.writing.ZoomsKind.put.Goals as goal

pub returns-in-Zoomed-clause-wrote : goal.returns-in-Zoomed-clause-wrote
returns-in-Zoomed-clause-wrote c = rw c.in-Zoomed.is (wrote_more c.put_byte-letter.ensures (wrote_more c.put-next.ensures.wrote (wrote_more c.put_byte-comma.ensures c.put.ensures.wrote)))
