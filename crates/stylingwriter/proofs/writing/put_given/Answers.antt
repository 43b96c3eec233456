use Rattle.writer.proofs.Writes.{wrote_more}
use Rattle.stylingwriter.proofs.writing.put_given.Goals as goal

pub returns-in-Some-clause-wrote : goal.returns-in-Some-clause-wrote
returns-in-Some-clause-wrote g c = rw c.in-Some.is (wrote_more c.put_byte-next.ensures c.put.ensures.wrote)
