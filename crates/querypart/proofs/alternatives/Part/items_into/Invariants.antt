use Rattle.querypart.proofs.Rows.{ItemsInv}
use lib.ListN.{length}
use Prim.Native.Nat.{◌-◌}
use Rattle.querypart.proofs.alternatives.Part.items_into.Given as goal

abbrev pub invariant-loop-items : goal.invariant-loop-items
invariant-loop-items l = ItemsInv l.self.edition l.self.boxed l.s l.at l.from l.items.count l.items.next l.items.reversed l.items.row l.items.crowded l.initial.words l.words

abbrev pub decreases-loop-items : goal.decreases-loop-items
decreases-loop-items l = length l.s - l.items.next
