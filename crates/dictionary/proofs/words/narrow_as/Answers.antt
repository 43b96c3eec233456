use native.Mathlib.Omega.{arith}
use mathlib.Core.Path.{ap, ◌∙◌}
use Rattle.token.proofs.Handed.{handed}
use Rattle.query.proofs.Answers.{all_fit}
use Rattle.verdict.proofs.Answers.{query_laid}
use Rattle.narrowing.specs.Narrowing.{as_narrowed}
use Rattle.dictionary.proofs.Narrowings.{with_refused, with_done}
use Rattle.dictionary.proofs.words.narrow_as.Goals as goal

pub returns-in_err-read_into : goal.returns-in_err-read_into
returns-in_err-read_into g c =
    ap (λ r. (as_narrowed r, c.args.list.now)) (handed _ _ c.from_residual.ensures.1)
    ∙ with_refused g.F.Form.valid c.read_into.ensures c.args.set c.args.dict.now c.args.list.now c.args.n {d = c.in_err-read_into.field-0.0} (grind arith)

pub invariant_of-conditions : goal.invariant_of-conditions
invariant_of-conditions g c = record { laid = query_laid _ _ _ _ _ c.read_into.ensures (all_fit c.args.edition _) tt (grind arith) }

pub returns : goal.returns
returns g c = with_done g.F.Form.valid c.read_into.ensures _ _ _ _ {u = tt} (grind arith) _ _ c.narrow_by.ensures
