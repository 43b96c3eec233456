use Rattle.report.specs.Report.{arranged_in}
use Rattle.report.proofs.report_sorted.Given as goal

abbrev pub ghost-report_by : goal.ghost-report_by
ghost-report_by a = arranged_in
