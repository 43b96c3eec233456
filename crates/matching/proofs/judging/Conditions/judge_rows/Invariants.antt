use Rattle.writer.specs.Arrays.{upto, symbol_at}
use Rattle.matching.proofs.Rows.{Judged}
use Rattle.matching.proofs.judging.Conditions.judge_rows.Given as goal

abbrev pub invariant-loop-j : goal.invariant-loop-j
invariant-loop-j l = Judged l.self.words.now (upto (symbol_at l.symbols) l.k) l.n l.at l.j l.witnesses
