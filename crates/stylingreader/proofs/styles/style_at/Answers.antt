use mathlib.Core.Path.{ap, ◌∙◌}
use lib.ListN.{set}
use native.Mathlib.Omega.{arith}
use Rattle.stylingreader.proofs.Chains.{handed_part}
use Rattle.stylingreader.proofs.Rows.{style_fails, number_room, says_fails, style_joins}
use Rattle.stylingreader.proofs.styles.style_at.Goals as goal

pub returns-in_err-n : goal.returns-in_err-n
returns-in_err-n g c =
    handed_part c.from_residual.ensures.1 (style_fails g.S.Style.zoomed _ _ _ c.requires.0 _ _ _ c.in_err-n.ensures _ _)

pub says_at-requires : goal.says_at-requires
says_at-requires g c =
    (number_room g.S.Style.zoomed _ _ _ c.requires.0 _ _ _ c.in_ok-n.ensures, omega arith)

pub returns-in_err-says : goal.returns-in_err-says
returns-in_err-says g c =
    handed_part c.from_residual-in_err-says.ensures.1 (says_fails g.S.Style.zoomed _ _ _ c.requires.0 _ _ _ c.in_ok-n.ensures _ _ c.in_err-says.ensures _ _)

pub returns : goal.returns
returns g c =
    style_joins g.S.Style.zoomed _ _ _ c.requires.0 _ _ _ c.in_ok-n.ensures _ (c.put.ensures ∙ ap (set c.args.to.now c.args.row) (c.KIND.ensures ∙ g.met.S.Style.numbered)) _ _ _ c.in_ok-says.ensures c.joined.ensures
