use Rattle.styling.proofs.Entries.{write_refused, write-short, write_done}
use Rattle.styling.proofs.write_styling.Goals as goal

pub returns-then-not-reads_as : goal.returns-then-not-reads_as
returns-then-not-reads_as c =
    write_refused _ _ _ _ c.put_styling-size.ensures _ c.reads_as.ensures _ c.if-not-reads_as.true

pub returns-then-out-size : goal.returns-then-out-size
returns-then-out-size c =
    write-short _ _ _ _ c.put_styling-size.ensures _ c.reads_as.ensures c.if-not-reads_as.false _ c.if-out-size.true

pub returns : goal.returns
returns c =
    write_done _ _ _ _ c.put_styling-size.ensures _ c.reads_as.ensures c.if-not-reads_as.false _ _ _ c.put_bytes.ensures
