use mathlib.Core.Path.{ap, ◌∙◌}
use Rattle.token.proofs.Handed.{handed}
use Rattle.query.proofs.Answers.{all_fit}
use Rattle.verdict.proofs.Answers.{query_laid}
use Rattle.searching.specs.Searching.{as_searched}
use Rattle.dictionary.proofs.Searches.{with_refused, with_done}
use Rattle.dictionary.proofs.search.Goals as goal

pub returns-in_err-read_into : goal.returns-in_err-read_into
returns-in_err-read_into c =
    let r = with_refused c.read_into.ensures c.args.set c.args.dict.now c.args.list.now c.in_err-read_into.was in
    record { answer = ap as_searched (handed _ _ c.from_residual.ensures.1) ∙ r.answer; memory = r.memory }

pub invariant_of-conditions : goal.invariant_of-conditions
invariant_of-conditions c = record { laid = query_laid _ _ _ _ _ c.read_into.ensures (all_fit c.args.edition _) _ c.in_ok-read_into.was }

pub returns : goal.returns
returns c = with_done c.read_into.ensures _ _ _ c.in_ok-read_into.was _ _ c.search_by.ensures
