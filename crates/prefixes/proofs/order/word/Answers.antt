use native.Mathlib.Omega.{arith}
use Rattle.prefixes.proofs.Reading.{word_there, number_six}
use Rattle.prefixes.proofs.order.word.Goals as goal

pub returns : goal.returns
returns g c = record {
  is = word_there c.args.s.now c.args.at g.row.N c.args.lead (omega arith) (omega arith) c.if-s-at-2.false _ c.number_at.ensures.is;
  small = number_six g.row.N _ c.number_at.ensures.small (omega arith);
}
