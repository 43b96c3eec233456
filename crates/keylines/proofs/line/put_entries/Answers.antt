use native.Mathlib.Omega.{arith}
use Rattle.writer.proofs.Writes.{wrote_none}
use Rattle.keylines.specs.Text.{entry_lines}
use Rattle.keylines.proofs.TextWrites.{entry_short, entries_more}
use Rattle.keylines.proofs.line.put_entries.Goals as goal

pub loop-entry-init : goal.loop-entry-init
unfolding entry_lines
loop-entry-init c = (omega arith, wrote_none _ _ (omega arith))

pub put_line-next-requires : goal.put_line-next-requires
put_line-next-requires c = omega (arith, entry_short c.from.result (rw c.from.ensures (c.type_inv.list c.loop-entry.entry-index).fits))

pub loop-entry-preserved : goal.loop-entry-preserved
loop-entry-preserved c = (
  omega (arith, entry_short c.from.result (rw c.from.ensures (c.type_inv.list c.loop-entry.entry-index).fits)),
  entries_more c.args.list.now _ c.loop-entry.invariant.1 c.loop-entry-test.true (rw c.from.ensures at c.put_line-next.ensures),
)
