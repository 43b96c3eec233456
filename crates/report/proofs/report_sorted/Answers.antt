use Rattle.writer.proofs.Writes.{wrote_as}
use Rattle.report.specs.Report.{sorted_output_of}
use Rattle.report.proofs.Searching.{as_sorted}
use Rattle.report.proofs.Splitting.{answered}
use Rattle.report.proofs.report_sorted.Goals as goal

pub returns : goal.returns
unfolding sorted_output_of
returns c = answered (wrote_as c.report_by.ensures (as_sorted _ _))
