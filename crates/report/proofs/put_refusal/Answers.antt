use mathlib.Core.Path.{◌≡◌}
use native.Mathlib.Omega.{arith}
use Rattle.charset.specs.Bytes.{ascii}
use Rattle.token.specs.Refusal.{number_of}
use Rattle.writer.proofs.Writes.{wrote_more}
use Rattle.keylines.proofs.TextWrites.{line_short}
use Rattle.report.specs.Report.{refusal_text}
use Rattle.report.proofs.put_refusal.Goals as goal

pub put_line-next-requires : goal.put_line-next-requires
put_line-next-requires c = omega (arith, line_short (ascii "answer=") 3 c.from.result (omega arith) (omega arith))

pub put_line-requires : goal.put_line-requires
put_line-requires c = omega (arith, line_short (ascii "answer=") 3 c.from.result (omega arith) (omega arith), line_short (ascii "place=") 20 c.place.result (omega arith) (omega arith))

pub returns : goal.returns
unfolding refusal_text
returns c =
    let n : c.from.result ≡ number_of c.args.e = cc in
    rw (← n, ← c.place.ensures) (wrote_more c.put_line-next.ensures c.put_line.ensures)
