use Prim.Native.Nat.{◌+◌}
use mathlib.Core.Path.{sym, ◌∙◌}
use Rattle.stylinggrammar.specs.Styling.{decimal}
use Rattle.stylingreader.specs.Takings.{take_zoom}
use Rattle.stylingreader.proofs.Chains.{handed_part, after_fails, after_goes, byte_room}
use Rattle.stylingreader.proofs.styles.ZoomedStyle.says_at.Goals as goal

pub returns-in_err-byte_at : goal.returns-in_err-byte_at
returns-in_err-byte_at c =
    handed_part c.from_residual.ensures.1 (after_fails 44 decimal (take_zoom (c.args.row + 2)) _ _ _ _ _ (sym c.byte_at.ensures ∙ c.in_err-byte_at.was))

pub zoom_at-requires : goal.zoom_at-requires
zoom_at-requires c =
    byte_room _ _ _ _ (sym c.byte_at.ensures ∙ c.in_ok-byte_at.was)

pub returns : goal.returns
returns c =
    after_goes 44 decimal (take_zoom (c.args.row + 2)) _ _ _ _ _ (sym c.byte_at.ensures ∙ c.in_ok-byte_at.was) _ c.zoom_at.ensures
