use Rattle.writer.proofs.Writes.{wrote_more}
use Rattle.writer.proofs.arrays.put_point.Goals as goal

pub returns : goal.returns
returns c = wrote_more c.put_number-next.ensures c.put_second.ensures
