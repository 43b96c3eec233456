use Rattle.querypart.proofs.Others.{OthersInv}
use lib.ListN.{length}
use Prim.Native.Nat.{◌-◌}
use Rattle.querypart.proofs.alternatives.Part.others_into.Given as goal

abbrev pub invariant-loop-others : goal.invariant-loop-others
invariant-loop-others l = OthersInv l.self.edition l.self.boxed l.s l.at l.from l.others.count l.others.next l.others.reversed l.row l.initial.words l.words

abbrev pub decreases-loop-others : goal.decreases-loop-others
decreases-loop-others l = length l.s - l.others.next
