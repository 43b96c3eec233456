use Rattle.writer.proofs.Writes.{wrote_more}
use Rattle.writer.proofs.tokens.put_second.Goals as goal

pub returns-in-Fsw : goal.returns-in-Fsw
returns-in-Fsw c = rw c.in-Fsw.is (wrote_more c.put_byte-next.ensures c.put_three.ensures)
