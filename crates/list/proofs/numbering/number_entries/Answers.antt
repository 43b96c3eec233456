use Rattle.list.proofs.Loops.{numbering_start, numbering_more}
use Rattle.list.proofs.numbering.number_entries.Goals as goal

pub loop-e-init : goal.loop-e-init
loop-e-init c = numbering_start _ _

pub loop-e-preserved : goal.loop-e-preserved
loop-e-preserved c = numbering_more c.loop-e.invariant c.requires.1 c.loop-e-test.true
