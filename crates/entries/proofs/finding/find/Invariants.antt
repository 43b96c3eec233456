use Rattle.entries.proofs.Seeking.{Seeking}
use Rattle.entries.proofs.finding.find.Given as goal

abbrev pub invariant-loop-passed : goal.invariant-loop-passed
invariant-loop-passed l = Seeking l.book.set l.book.dict.now l.book.lines l.conditions.words.now l.listed l.initial.bits l.bits l.start l.passed l.met
