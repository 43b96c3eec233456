use mathlib.Core.Path.{◌≡◌, sym, ap, ◌∙◌}
use Rattle.queryitem.specs.Pieces.{swu_at}
use Rattle.queryitem.proofs.Answers.{item_in_fsw, edition_in_swu, item_swu}
use Rattle.queryitem.proofs.item.item_at.Goals as goal

pub returns-then-in_swu : goal.returns-then-in_swu
returns-then-in_swu c =
    rw (edition_in_swu c.args.edition (sym c.in_swu.ensures ∙ c.if-in_swu.true))
    (c.swu_item_at.ensures ∙ ap (λ n. swu_at n c.args.s.now c.args.at) c.from.ensures ∙ item_swu c.args.boxed c.args.s.now c.args.at)

pub returns : goal.returns
returns c =
    c.fsw_item_at.ensures ∙ rw c.has_null.ensures (item_in_fsw c.args.edition c.args.boxed c.args.s.now c.args.at (sym c.in_swu.ensures ∙ c.if-in_swu.false))
