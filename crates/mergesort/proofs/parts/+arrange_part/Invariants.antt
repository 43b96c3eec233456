-- The measure is the number of entries of the part.
use lib.ListN.{length}
use Rattle.mergesort.proofs.parts.+arrange_part.Given as goal

abbrev pub decreases-arrange_part : goal.decreases-arrange_part
decreases-arrange_part l = length l.list.now
