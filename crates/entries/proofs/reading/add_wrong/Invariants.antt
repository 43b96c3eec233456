use Rattle.entries.proofs.Lines.{unread}
use Rattle.entries.proofs.Walking.{Walking}
use Rattle.entries.proofs.reading.add_wrong.Given as goal

abbrev pub invariant-loop-passed : goal.invariant-loop-passed
invariant-loop-passed l = Walking l.book.dict.now l.book.lines (unread l.book.set l.book.dict.now l.listed) l.initial.wrong l.wrong l.at l.passed
