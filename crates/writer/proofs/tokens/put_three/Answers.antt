use Rattle.writer.proofs.Writes.{wrote_more}
use Rattle.writer.proofs.tokens.put_three.Goals as goal

pub returns : goal.returns
returns c = wrote_more c.put_digit-next.ensures c.put_two.ensures
