use native.Mathlib.Omega.{arith}
use Rattle.prefixes.proofs.Comparing.{sizes, prefix_differ, prefix_none, prefix_rest}
use Rattle.prefixes.proofs.order.before.Goals as goal

pub returns-then-a-b : goal.returns-then-a-b
returns-then-a-b c = prefix_differ _ _ _ _ _ _ c.first_at-a.ensures c.first_at-b.ensures (omega arith) (omega arith) c.if-a-b.true

pub returns-then-a : goal.returns-then-a
returns-then-a c = prefix_none _ _ _ _ _ _ c.first_at-a.ensures c.first_at-b.ensures c.if-a.true

pub returns : goal.returns
returns c = prefix_rest _ _ _ _ _ _ c.first_at-a.ensures c.first_at-b.ensures _ _ c.if-a-b.false c.if-a.false (sizes c.args.set _ _ c.marker_size.ensures c.symbol_size.ensures) c.words_before.ensures
