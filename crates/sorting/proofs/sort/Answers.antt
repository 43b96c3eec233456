use mathlib.Core.Path.{sym, ap, ◌∙◌}
use Rattle.token.proofs.Handed.{handed}
use Rattle.token.specs.Result.{outcome}
use Rattle.sorting.specs.Sorting.{as_sorted}
use Rattle.sorting.proofs.Sortings.{refused, ready, sorts}
use Rattle.sorting.proofs.sort.Goals as goal

pub returns-in_err-lines : goal.returns-in_err-lines
returns-in_err-lines c =
    let r = refused c.args.set c.args.dict.now c.args.list.now c.args.n c.args.spare.now _ _ (sym (ap outcome c.in_err-lines.was) ∙ c.check_call.ensures) in
    record { answer = ap as_sorted (handed _ _ c.from_residual.ensures.1) ∙ r.answer; memory = r.memory; second = r.second }

pub arrange_listed-requires : goal.arrange_listed-requires
arrange_listed-requires c = ready c.args.set c.args.dict.now c.args.list.now c.args.n c.args.spare.now _ (sym (ap outcome c.in_ok-lines.was) ∙ c.check_call.ensures)

pub returns : goal.returns
returns c =
    sorts c.args.set c.args.dict.now c.args.list.now c.args.n c.args.spare.now _ (sym (ap outcome c.in_ok-lines.was) ∙ c.check_call.ensures)
    _ _ c.arrange_listed.ensures.list_after c.arrange_listed.ensures.spare_after
