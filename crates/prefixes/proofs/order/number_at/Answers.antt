use Prim.Native.Nat.{◌+◌, ◌-◌, ◌<◌}
use native.Mathlib.Omega.{arith}
use lib.ListN.{drop, length-drop, length-take}
use lib.Seq.{get_or-take, get_or-drop}
use mathlib.Core.Path.{◌∙◌}
use Rattle.prefixes.proofs.Reading.{number_more, number_fits, number_room}
use Rattle.prefixes.proofs.order.number_at.Goals as goal

pub overflow_mul-n : goal.overflow_mul-n
overflow_mul-n g c = record { fits = number_room c.loop-b.b-index _ c.loop-b.invariant.1 (omega (arith, length-take (c.args.at + g.row.N - c.args.at) (drop c.args.at c.args.s.now))) }

pub loop-b-preserved : goal.loop-b-preserved
loop-b-preserved g c =
    let below : c.loop-b.b-index < c.args.at + g.row.N - c.args.at = omega (arith, length-take (c.args.at + g.row.N - c.args.at) (drop c.args.at c.args.s.now)) in
    let byte = c.from.ensures ∙ get_or-take (c.args.at + g.row.N - c.args.at) (drop c.args.at c.args.s.now) c.loop-b.b-index 0 below in (
      number_more (drop c.args.at c.args.s.now) c.loop-b.b-index _ _ (omega (arith, length-drop c.args.at c.args.s.now)) c.loop-b.invariant.0 byte,
      number_fits c.loop-b.b-index _ _ c.loop-b.invariant.1 (omega (arith, byte, c.type_inv.s (c.args.at + c.loop-b.b-index), get_or-drop c.args.at c.args.s.now c.loop-b.b-index 0)),
    )
