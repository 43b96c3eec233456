use Rattle.std.proofs.Common.{arith}
use Rattle.entries.proofs.Meeting.{not_listed, is_listed}
use Rattle.entries.proofs.finding.judge_listed.Goals as goal

pub returns-then-not-has : goal.returns-then-not-has
returns-then-not-has c = not_listed _ _ _ _ _ c.has.ensures c.if-not-has.true

pub returns : goal.returns
returns c = is_listed _ _ _ _ _ c.has.ensures c.if-not-has.false c.meets_text.result c.meets_text.ensures _ (λ x is. grind arith) (λ d is. grind arith)
