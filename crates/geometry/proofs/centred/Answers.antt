use mathlib.Core.Path.{◌∙◌}
use mir.Syntax.{w64}
use mir.Val.{SFits}
use mir.Facts.{to_z-of_z}
use Rattle.std.proofs.Common.{rules}
use Rattle.token.proofs.Handed.{handed}
use Rattle.sign.proofs.Transcribing.{lies}
use Rattle.geometry.proofs.Answering.{coded, centred_unread, centred_unmeasured, centred_done}
use Rattle.geometry.proofs.centred.Goals as goal

pub returns-in_err-head : goal.returns-in_err-head
returns-in_err-head c = rw (handed _ _ c.from_residual.ensures.1) (centred_unread _ _ _ _ c.read_into.ensures _ c.in_err-head.was _ _)

pub measure-requires : goal.measure-requires
measure-requires c = let l = lies _ _ _ _ c.read_into.ensures _ c.in_ok-head.was in (l.symbols_most, l.valid.symbols)

pub returns-in_err-groups : goal.returns-in_err-groups
returns-in_err-groups c =
    rw (handed _ _ c.from_residual-in_err-groups.ensures.1)
    (centred_unmeasured _ _ _ _ c.read_into.ensures _ c.in_ok-head.was _ _ c.measure.ensures _ c.in_err-groups.was _)

pub write_moved-requires : goal.write_moved-requires
write_moved-requires c =
    let l = lies _ _ _ _ c.read_into.ensures _ c.in_ok-head.was in
    (l.prefix_most, l.symbols_most, coded _ _ _ _ c.read_into.ensures _ c.in_ok-head.was _ _)

pub returns : goal.returns
returns c =
    let x : SFits w64 c.to_middle-x.result = search rules in
    let y : SFits w64 c.to_middle-y.result = search rules in
    centred_done _ _ _ _ c.read_into.ensures _ c.in_ok-head.was _ _ c.measure.ensures _ c.in_ok-groups.was _ _ _ _ _ _
    c.doubled_centre-doubled.ensures.is (to_z-of_z x ∙ c.to_middle-x.ensures) (to_z-of_z y ∙ c.to_middle-y.ensures) c.write_moved.ensures
