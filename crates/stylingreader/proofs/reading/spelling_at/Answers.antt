use mathlib.Core.Path.{sym, ◌∙◌}
use native.Mathlib.Omega.{arith}
use Rattle.stylingreader.proofs.Chains.{handed_part, byte_room}
use Rattle.stylingreader.proofs.Strings.{dash_missing, dash_there}
use Rattle.stylingreader.proofs.reading.spelling_at.Goals as goal

pub returns-in_err-byte_at : goal.returns-in_err-byte_at
returns-in_err-byte_at c = handed_part c.from_residual.ensures.1 (dash_missing _ _ _ _ _ (sym c.byte_at.ensures ∙ c.in_err-byte_at.was))

pub overflow_add-at : goal.overflow_add-at
overflow_add-at c = omega (arith, byte_room _ _ _ _ (sym c.byte_at.ensures ∙ c.in_ok-byte_at.was))

pub parts_at-requires : goal.parts_at-requires
parts_at-requires c = byte_room _ _ _ _ (sym c.byte_at.ensures ∙ c.in_ok-byte_at.was)

pub returns : goal.returns
returns c = dash_there _ _ _ _ _ (sym c.byte_at.ensures ∙ c.in_ok-byte_at.was) _ c.parts_at.ensures
