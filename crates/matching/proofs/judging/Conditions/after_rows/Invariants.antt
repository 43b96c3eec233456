use Rattle.matching.proofs.Rows.{Begun}
use Rattle.matching.proofs.judging.Conditions.after_rows.Given as goal

abbrev pub invariant-loop-code : goal.invariant-loop-code
invariant-loop-code l = Begun l.self.words.now l.codes l.m l.at l.code-index
