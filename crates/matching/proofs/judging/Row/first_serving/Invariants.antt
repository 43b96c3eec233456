use mathlib.Core.Bool.{false}
use Rattle.writer.specs.Arrays.{symbol_at}
use Rattle.matching.specs.Inner.{serves_at}
use Rattle.matching.proofs.Loops.{Passed}
use Rattle.matching.proofs.judging.Row.first_serving.Given as goal

abbrev pub invariant-loop-i : goal.invariant-loop-i
invariant-loop-i l = Passed (λ j. serves_at l.self.words.now l.self.at l.variance (symbol_at l.symbols j)) false l.i
