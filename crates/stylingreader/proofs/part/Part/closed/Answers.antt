use native.Mathlib.Omega.{arith}
use mathlib.Core.Path.{sym, ◌∙◌}
use Rattle.stylingreader.proofs.Fixed.{byte_told}
use Rattle.stylingreader.proofs.part.Part.closed.Goals as goal

pub overflow_add-result : goal.overflow_add-result
overflow_add-result c = omega (arith, (byte_told _ _ _ _ (sym c.byte_at.ensures ∙ c.in_ok-byte_at.was)).room)
