use native.Mathlib.Omega.{arith}
use Rattle.sign.specs.Inner.{sign_in}
use Rattle.token.proofs.PaddedLists.{padded_length}
use Rattle.layout.proofs.Laying.{prefix_place, codes-place, xs-place, ys-place, front-filled, prefix_clear, symbols-clear, whole-sign}
use Rattle.layout.proofs.signs.put_sign.Goals as goal

pub put_counted-requires : goal.put_counted-requires
put_counted-requires c = (prefix_place (sign_in c.args.set c.args.h c.args.symbols.now) _ c.put.ensures c.put_counted-arg-2-1.given, c.requires.prefix, omega (arith, c.put_counted-arg-2-1.given))

pub put_counted-requires-2 : goal.put_counted-requires-2
put_counted-requires-2 c = (codes-place (sign_in c.args.set c.args.h c.args.symbols.now) _ c.put.ensures c.put_counted-arg-2-1.given _ c.put_counted.ensures c.put_counted-arg-4-1.given, c.requires.codes, omega (arith, c.put_counted-arg-4-1.given))

pub put_counted-requires-3 : goal.put_counted-requires-3
put_counted-requires-3 c = (xs-place (sign_in c.args.set c.args.h c.args.symbols.now) _ c.put.ensures c.put_counted-arg-2-1.given _ c.put_counted.ensures c.put_counted-arg-4-1.given _ c.put_counted-2.ensures c.put_counted-arg-6-1.given, c.requires.xs, omega (arith, c.put_counted-arg-6-1.given))

pub put_counted-requires-4 : goal.put_counted-requires-4
put_counted-requires-4 c = (ys-place (sign_in c.args.set c.args.h c.args.symbols.now) _ c.put.ensures c.put_counted-arg-2-1.given _ c.put_counted.ensures c.put_counted-arg-4-1.given _ c.put_counted-2.ensures c.put_counted-arg-6-1.given _ c.put_counted-3.ensures c.put_counted-arg-8-1.given, c.requires.ys, omega (arith, c.put_counted-arg-8-1.given))

pub put_prefix_offsets-requires : goal.put_prefix_offsets-requires
put_prefix_offsets-requires c = (omega (arith, c.requires.counted.prefix), prefix_clear (sign_in c.args.set c.args.h c.args.symbols.now) _ (front-filled (sign_in c.args.set c.args.h c.args.symbols.now) _ c.put.ensures c.put_counted-arg-2-1.given _ c.put_counted.ensures c.put_counted-arg-4-1.given _ c.put_counted-2.ensures c.put_counted-arg-6-1.given _ c.put_counted-3.ensures c.put_counted-arg-8-1.given _ c.put_counted-4.ensures))

pub put_symbol_offsets-requires : goal.put_symbol_offsets-requires
put_symbol_offsets-requires c = (omega (arith, c.requires.counted.prefix), omega (arith, c.requires.counted.symbols), symbols-clear (sign_in c.args.set c.args.h c.args.symbols.now) _ (front-filled (sign_in c.args.set c.args.h c.args.symbols.now) _ c.put.ensures c.put_counted-arg-2-1.given _ c.put_counted.ensures c.put_counted-arg-4-1.given _ c.put_counted-2.ensures c.put_counted-arg-6-1.given _ c.put_counted-3.ensures c.put_counted-arg-8-1.given _ c.put_counted-4.ensures) _ (padded_length 32 _) c.put_prefix_offsets.ensures)

pub returns : goal.returns
returns c = whole-sign (sign_in c.args.set c.args.h c.args.symbols.now) _ (front-filled (sign_in c.args.set c.args.h c.args.symbols.now) _ c.put.ensures c.put_counted-arg-2-1.given _ c.put_counted.ensures c.put_counted-arg-4-1.given _ c.put_counted-2.ensures c.put_counted-arg-6-1.given _ c.put_counted-3.ensures c.put_counted-arg-8-1.given _ c.put_counted-4.ensures) _ (padded_length 32 _) c.put_prefix_offsets.ensures _ (padded_length 64 _) c.put_symbol_offsets.ensures
