use lib.ListN.{length}
use Rattle.charset.specs.Tokens.{tokens}
use Rattle.grammar.specs.Sign.{prefix_symbol}
use Rattle.writer.specs.Arrays.{at}
use Rattle.writer.proofs.Upto.{Putting}
use Rattle.writer.proofs.arrays.put_prefix.Given as goal

abbrev pub invariant-loop-code : goal.invariant-loop-code
invariant-loop-code l = Putting (prefix_symbol (tokens l.set)) (at l.codes) (length l.codes) l.initial.out l.out l.initial.next l.next l.code-index
