use Prim.Native.Nat.{ℕ}
use lib.ListN.{length-replicate}
use Rattle.writer.proofs.Writes.{wrote_as}
use Rattle.report.proofs.Searching.{accepted, tells_found, tells_refusal}
use Rattle.report.proofs.report_by.Goals as goal

pub returns-in-Ok : goal.returns-in-Ok
returns-in-Ok g c =
    let found = accepted c.in-Ok.found.lines c.in-Ok.found.written (length-replicate {A = ℕ} 1024 0) c.in-Ok.ensures in
    let told = tells_found g.order found _ (c.requires.1.1 _ _ _ _ found.entries found.many found.filled c.arrange.ensures) in
    rw (← c.dictionary_in-dict.ensures, ← c.query_in.ensures) (wrote_as c.put_found.ensures told)

pub returns-in-Err : goal.returns-in-Err
returns-in-Err g c =
    rw (← c.dictionary_in-dict.ensures, ← c.query_in.ensures) (wrote_as c.put_refusal.ensures (tells_refusal g.order c.in-Err.e c.in-Err.ensures))
