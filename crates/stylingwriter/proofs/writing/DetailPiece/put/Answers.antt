use native.Mathlib.Omega.{arith}
use Rattle.writer.proofs.Writes.{wrote_none, wrote_more}
use Rattle.stylingwriter.proofs.writing.DetailPiece.put.Goals as goal

pub returns-in_default-clause-wrote : goal.returns-in_default-clause-wrote
returns-in_default-clause-wrote c =
    let line = c.put_colour-line.ensures.wrote in
    rw c.in_default.is (wrote_more c.put_byte-first.ensures (wrote_more (wrote_more line (wrote_none _ _ (omega arith))) c.put_byte.ensures))

pub returns-clause-wrote : goal.returns-clause-wrote
returns-clause-wrote c =
    rw c.in-Some.is (wrote_more c.put_byte-first.ensures (wrote_more (wrote_more c.put_colour-line.ensures.wrote (wrote_more c.put_byte-comma.ensures c.put_colour-last.ensures.wrote)) c.put_byte-2.ensures))
