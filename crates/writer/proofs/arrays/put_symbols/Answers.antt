use native.Mathlib.Omega.{arith}
use Rattle.grammar.specs.Sign.{ValidSymbol}
use Rattle.writer.proofs.Writes.{wrote_as}
use Rattle.writer.specs.Arrays.{symbol_at}
use Rattle.writer.proofs.Upto.{all_upto, putting_none, putting_more, putting_all, putting_room}
use Rattle.writer.proofs.SignWrites.{spatial_size_lem, symbols_text_lem}
use Rattle.writer.proofs.arrays.put_symbols.Goals as goal

pub loop-i-init : goal.loop-i-init
loop-i-init c = putting_none _ _ _ _ _ (omega arith)

pub put_spatial-next-requires : goal.put_spatial-next-requires
put_spatial-next-requires c =
    let a = c.args in
    let h = c.loop-i-test.true in (
      putting_room _ _ (spatial_size_lem a.set) c.requires.1 c.loop-i.invariant h,
      all_upto ValidSymbol (symbol_at a.symbols.now) _ c.requires.2 _ h,
    )

pub loop-i-preserved : goal.loop-i-preserved
loop-i-preserved c = putting_more _ _ c.loop-i.invariant c.loop-i-test.true c.put_spatial-next.ensures

pub returns : goal.returns
returns c =
    let a = c.args in
    wrote_as (putting_all _ _ c.loop-i.invariant c.loop-i-test.false) (symbols_text_lem a.set (symbol_at a.symbols.now) a.n)
