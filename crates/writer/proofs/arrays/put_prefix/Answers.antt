use native.Mathlib.Omega.{arith}
use Prim.Native.Nat.{◌<◌}
use lib.ListN.{length}
use Rattle.std.proofs.lemmas.Bool.Decides.{nat_tests}
use Rattle.format.specs.Numeral.{Range}
use Rattle.charset.specs.Tokens.{last_location, last_code}
use Rattle.writer.proofs.Upto.{all_at, putting_none, putting_more, putting_room, putting_list}
use Rattle.writer.proofs.SignWrites.{marker_size_lem, prefix_symbol_size, prefix_size_some, prefix_put_some, symbol_put}
use Rattle.writer.proofs.arrays.put_prefix.Goals as goal

pub loop-code-init : goal.loop-code-init
loop-code-init c = putting_none _ _ _ _ _ (omega arith)

pub put_symbol-next-requires : goal.put_symbol-next-requires
put_symbol-next-requires c =
    let a = c.args in
    let h = c.loop-code-test.true in
    let n = length a.codes.now in
    let e = prefix_size_some a.set n (omega arith) in
    let m = marker_size_lem a.set 0 in (
      putting_room _ _ (prefix_symbol_size a.set) (omega arith) c.loop-code.invariant h,
      omega (arith, (all_at (Range 0 (last_code last_location)) a.codes.now c.requires.1 c.loop-code.code-index h).1),
    )

pub loop-code-preserved : goal.loop-code-preserved
loop-code-preserved c = putting_more _ _ c.loop-code.invariant c.loop-code-test.true (symbol_put c.args.set _ c.put_symbol-next.ensures)

pub returns : goal.returns
returns c =
    let a = c.args in
    let some : 0 < length a.codes.now = grind (arith, nat_tests) in
    prefix_put_some a.set a.codes.now some c.put_marker-next.ensures (putting_list _ a.codes.now c.loop-code.invariant c.loop-code-test.false)
