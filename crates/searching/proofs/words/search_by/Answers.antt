use mathlib.Core.Path.{sym, ap, ◌∙◌}
use Rattle.token.proofs.Handed.{handed}
use Rattle.lines.proofs.Counts.{count_refused, count_done}
use Rattle.searching.specs.Searching.{as_searched}
use Rattle.searching.proofs.Searching.{by_dictionary, by_met, by_all}
use Rattle.searching.proofs.words.search_by.Goals as goal

pub returns-in_err-lines : goal.returns-in_err-lines
returns-in_err-lines c =
    ap (λ r. (as_searched r, c.args.list.now)) (handed _ _ c.from_residual.ensures.1) ∙ by_dictionary c.args.set _ _ _ _ _ (count_refused _ c.count_lines.ensures c.in_err-lines.was)

pub returns-then-asks_nothing : goal.returns-then-asks_nothing
returns-then-asks_nothing c = by_all _ _ _ _ (count_done _ c.count_lines.ensures c.in_ok-lines.was) (sym c.asks_nothing.ensures ∙ c.if-asks_nothing.true) _ _ c.search_all.ensures

pub returns : goal.returns
returns c = by_met _ _ _ _ (count_done _ c.count_lines.ensures c.in_ok-lines.was) _ _ c.search_met.ensures
