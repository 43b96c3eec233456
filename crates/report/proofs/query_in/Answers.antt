use Rattle.report.proofs.Splitting.{query_is}
use Rattle.report.proofs.query_in.Goals as goal

pub slice_bounds-result-end : goal.slice_bounds-result-end
slice_bounds-result-end c = (query_is _ _ c.line_end-end.ensures).0

pub returns : goal.returns
returns c = (query_is _ _ c.line_end-end.ensures).1
