use Rattle.queryitem.proofs.SwuItems.{marks_null, marks_found}
use Rattle.queryitem.proofs.swu.marks_at.Goals as goal

pub returns-then-code-eq0 : goal.returns-then-code-eq0
returns-then-code-eq0 c = marks_null _ _ c.requires.0 _ _ c.if-code-eq0.true c.null_numbers.ensures

pub returns : goal.returns
returns c = marks_found _ _ c.requires.0 _ _ c.if-code-eq0.false _ _ _ _ c.stands-fills.ensures c.past-next.ensures c.stands-rotations.ensures c.past.ensures c.marked_numbers.ensures
