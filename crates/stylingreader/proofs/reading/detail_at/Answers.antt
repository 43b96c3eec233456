use mathlib.Core.Path.{refl}
use native.Mathlib.Omega.{arith}
use Rattle.stylinggrammar.specs.Styling.{detail}
use Rattle.stylingreader.specs.Takings.{take_detail, take_details}
use Rattle.stylingreader.proofs.Chains.{handed_part, part_absent, part_there, part_failed}
use Rattle.stylingreader.proofs.Details.{details_counted}
use Rattle.stylingreader.proofs.Marks.{stands_room}
use Rattle.stylingreader.proofs.reading.detail_at.Goals as goal

pub returns-then-not-stands : goal.returns-then-not-stands
returns-then-not-stands c = part_absent 68 detail take_details _ _ _ _ _ c.stands.ensures c.requires c.if-not-stands.true _ c.passed.ensures refl

pub detail_at-requires : goal.detail_at-requires
detail_at-requires c = (stands_room _ _ _ _ c.stands.ensures c.if-not-stands.false, omega arith)

pub returns-in_err-colours : goal.returns-in_err-colours
returns-in_err-colours c = handed_part c.from_residual.ensures.1 (part_there 68 detail take_details _ _ _ _ _ c.stands.ensures c.if-not-stands.false _ (part_failed detail (take_detail 30) take_details _ _ _ _ _ _ _ c.in_err-colours.ensures))

pub returns : goal.returns
returns c = part_there 68 detail take_details _ _ _ _ _ c.stands.ensures c.if-not-stands.false _ (details_counted _ _ _ _ _ _ c.put.ensures c.in_ok-colours.ensures)
