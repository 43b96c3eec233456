use Rattle.charset.specs.Tokens.{tokens}
use Rattle.charset.proofs.Sets.{lawful}
use Rattle.grammar.proofs.Sign.{symbol_fixed}
use Rattle.part.proofs.Placing.{sure_told}
use Rattle.part.proofs.reading.prefix_symbol_at.Goals as goal

pub returns : goal.returns
returns c = sure_told _ _ _ (symbol_fixed (tokens c.args.set) (lawful c.args.set)) _ _ _ _ c.prefix_symbol.ensures c.in-Some.is
