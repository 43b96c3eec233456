use native.Mathlib.Omega.{arith}
use lib.ListN.{length}
use Rattle.charset.specs.Bytes.{ascii}
use Rattle.writer.proofs.Writes.{wrote_more}
use Rattle.keylines.proofs.TextWrites.{line_short}
use Rattle.report.specs.Report.{found_text}
use Rattle.report.proofs.put_found.Goals as goal

pub put_line-a-requires : goal.put_line-a-requires
put_line-a-requires c = omega (arith, line_short (ascii "answer=") 1 0 (omega arith) (omega arith))

pub put_line-b-requires : goal.put_line-b-requires
put_line-b-requires c = omega (arith, line_short (ascii "answer=") 1 0 (omega arith) (omega arith), line_short (ascii "entries=") 4 c.args.lines (omega arith) (omega arith))

pub put_line-c-requires : goal.put_line-c-requires
put_line-c-requires c = omega (arith, line_short (ascii "answer=") 1 0 (omega arith) (omega arith), line_short (ascii "entries=") 4 c.args.lines (omega arith) (omega arith), line_short (ascii "kept=") 4 (length c.args.kept.now) (omega arith) (omega arith))

pub put_entries-requires : goal.put_entries-requires
put_entries-requires c = omega (arith, line_short (ascii "answer=") 1 0 (omega arith) (omega arith), line_short (ascii "entries=") 4 c.args.lines (omega arith) (omega arith), line_short (ascii "kept=") 4 (length c.args.kept.now) (omega arith) (omega arith))

pub returns : goal.returns
unfolding found_text
returns c = wrote_more (wrote_more (wrote_more c.put_line-a.ensures c.put_line-b.ensures) c.put_line-c.ensures) c.put_entries.ensures
