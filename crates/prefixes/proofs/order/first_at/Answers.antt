use Rattle.prefixes.proofs.Reading.{first_absent, first_there}
use Rattle.prefixes.proofs.order.first_at.Goals as goal

pub returns-then-first-eq0 : goal.returns-then-first-eq0
returns-then-first-eq0 c = first_absent _ _ _ (c.is_marked.ensures.yes c.if-not-is_marked.false) _ (rw c.marker_size.ensures at c.word_at-first.ensures.is) c.if-first-eq0.true

pub returns : goal.returns
returns c = first_there _ _ _ (c.is_marked.ensures.yes c.if-not-is_marked.false) _ (rw c.marker_size.ensures at c.word_at-first.ensures.is) c.if-first-eq0.false c.word_at-first.ensures.small
