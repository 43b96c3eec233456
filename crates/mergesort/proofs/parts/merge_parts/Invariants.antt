use Prim.Native.Nat.{◌+◌, ◌-◌}
use lib.ListN.{length}
use Rattle.mergesort.specs.Inner.{before}
use Rattle.mergesort.proofs.Merging.{Merging}
use Rattle.mergesort.proofs.parts.merge_parts.Given as goal

abbrev pub invariant-loop-i : goal.invariant-loop-i
invariant-loop-i l = Merging (before l.order) l.initial.list l.h l.spare l.list l.i l.j l.k

abbrev pub decreases-loop-i : goal.decreases-loop-i
decreases-loop-i l = (l.h - l.i) + (length l.initial.list - l.j)
