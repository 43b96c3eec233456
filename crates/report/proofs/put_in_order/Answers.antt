use Prim.Native.Nat.{ℕ}
use lib.ListN.{length-replicate}
use Rattle.report.proofs.Searching.{sorts}
use Rattle.report.proofs.put_in_order.Goals as goal

pub returns : goal.returns
returns c = sorts _ _ _ _ _ (length-replicate {A = ℕ} 1024 0) c.sort.ensures.memory
