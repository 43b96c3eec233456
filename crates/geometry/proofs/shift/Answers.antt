use mathlib.Core.Path.{◌∙◌}
use mir.Syntax.{w64}
use mir.Val.{SFits}
use mir.Facts.{to_z-of_z}
use Rattle.std.proofs.Common.{rules}
use Rattle.token.proofs.Handed.{handed}
use Rattle.sign.proofs.Transcribing.{lies}
use Rattle.geometry.proofs.Answering.{coded, shift_unread, shift_done}
use Rattle.geometry.proofs.shift.Goals as goal

pub returns-in_err-head : goal.returns-in_err-head
returns-in_err-head c = rw (handed _ _ c.from_residual.ensures.1) (shift_unread _ _ _ _ c.read_into.ensures _ c.in_err-head.was _ _ _)

pub write_moved-requires : goal.write_moved-requires
write_moved-requires c =
    let l = lies _ _ _ _ c.read_into.ensures _ c.in_ok-head.was in
    (l.prefix_most, l.symbols_most, coded _ _ _ _ c.read_into.ensures _ c.in_ok-head.was _ _)

pub returns : goal.returns
returns c =
    let x : SFits w64 c.from.result = search rules in
    let y : SFits w64 c.from-2.result = search rules in
    shift_done _ _ _ _ c.read_into.ensures _ c.in_ok-head.was _ _ _ _ _ _ _ (to_z-of_z x ∙ c.from.ensures ∙ to_z-of_z c.ranges.dx) (to_z-of_z y ∙ c.from-2.ensures ∙ to_z-of_z c.ranges.dy) c.write_moved.ensures
