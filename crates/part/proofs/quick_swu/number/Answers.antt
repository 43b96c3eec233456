use Rattle.std.proofs.Common.{arith}
use Rattle.std.proofs.lemmas.Grind.{common_steps}
use Rattle.part.proofs.quick_swu.number.Goals as goal

pub overflow_add-result : goal.overflow_add-result
overflow_add-result c = omega (arith, (c.marker_or_number.ensures.is _ c.in_ok-x.was).valid.1)

pub returns : goal.returns
returns c = let p = c.marker_or_number.ensures.is _ c.in_ok-x.was in grind (arith, common_steps, p.valid, p.bytes)
