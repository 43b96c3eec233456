use Rattle.report.proofs.report.Given as goal

abbrev pub ghost-report_by : goal.ghost-report_by
ghost-report_by a = λ dict entries. entries
