use mathlib.Core.Path.{sym, ap, ◌∙◌}
use native.Mathlib.Omega.{arith}
use Rattle.grammar.specs.Sign.{ValidSymbol}
use Rattle.writer.specs.Arrays.{upto, symbol_at}
use Rattle.writer.proofs.Upto.{all_upto}
use Rattle.bounds.specs.Boxes.{groups_of}
use Rattle.bounds.specs.Inner.{with_symbol}
use Rattle.bounds.proofs.Grouping.{upto_more, groups_none, groups_more}
use Rattle.bounds.proofs.measure.groups_of.Goals as goal

pub loop-i-init : goal.loop-i-init
unfolding upto
loop-i-init c = c.none-groups.ensures ∙ groups_none _

pub symbol_box-b-requires : goal.symbol_box-b-requires
symbol_box-b-requires c = all_upto ValidSymbol (symbol_at c.args.symbols.now) c.args.n c.requires.1 c.loop-i.i (omega arith)

pub with_symbol-groups-requires : goal.with_symbol-groups-requires
with_symbol-groups-requires c = (all_upto ValidSymbol (symbol_at c.args.symbols.now) c.args.n c.requires.1 c.loop-i.i (omega arith)).0.0

pub loop-i-preserved : goal.loop-i-preserved
loop-i-preserved c =
    let sizes = c.args.sizes.now in
    let g = symbol_at c.args.symbols.now in
    let i = c.loop-i.i in
    c.with_symbol-groups.ensures
    ∙ (λ j. with_symbol (c.loop-i.invariant j) (g i).code (c.symbol_box-b.ensures j))
    ∙ groups_more sizes (upto g i) (g i)
    ∙ ap (groups_of sizes) (sym (upto_more g i))
