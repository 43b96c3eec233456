use Rattle.linetable.proofs.Walking.{walking_on, walking_end}
use Rattle.linetable.proofs.table.walk_to.Goals as goal

pub loop-line-preserved : goal.loop-line-preserved
loop-line-preserved c = walking_on c.loop-line.invariant c.loop-line-test.true _ c.next_line-at.ensures

pub returns : goal.returns
returns c = walking_end c.loop-line.invariant c.loop-line-test.false
