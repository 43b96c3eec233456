use Rattle.charset.specs.Tokens.{tokens}
use Rattle.grammar.specs.Sign.{spatial, of_spatial}
use Rattle.writer.specs.Arrays.{symbol_at}
use Rattle.writer.proofs.Upto.{Putting}
use Rattle.writer.proofs.arrays.put_symbols.Given as goal

abbrev pub invariant-loop-i : goal.invariant-loop-i
invariant-loop-i l = Putting (spatial (tokens l.set)) (λ k. of_spatial (symbol_at l.fn.symbols k)) l.n l.initial.out l.out l.at l.next l.i
