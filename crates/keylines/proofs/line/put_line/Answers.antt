use Rattle.writer.proofs.Writes.{wrote_more}
use Rattle.keylines.specs.Text.{key_line}
use Rattle.keylines.proofs.line.put_line.Goals as goal

pub returns : goal.returns
unfolding key_line
returns c = wrote_more (wrote_more c.put_bytes-a.ensures c.put_decimal-b.ensures) c.put_byte.ensures
