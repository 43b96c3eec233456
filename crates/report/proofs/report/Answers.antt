use Rattle.writer.proofs.Writes.{wrote_as}
use Rattle.report.specs.Report.{output_of}
use Rattle.report.proofs.Searching.{as_found}
use Rattle.report.proofs.Splitting.{answered}
use Rattle.report.proofs.report.Goals as goal

pub returns : goal.returns
unfolding output_of
returns c = answered (wrote_as c.report_by.ensures (as_found _ _))
