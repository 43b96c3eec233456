use Prim.Native.Nat.{◌+◌, ◌*◌, ◌≤◌}
use lib.ListN.{take}
use Rattle.token.specs.Wrote.{Wrote}
use Rattle.keylines.specs.Text.{entry_lines}
use Rattle.keylines.proofs.line.put_entries.Given as goal

abbrev pub invariant-loop-entry : goal.invariant-loop-entry
invariant-loop-entry l = (l.next ≤ l.at + 12 * l.entry-index) × Wrote l.initial.out l.out l.at l.next (entry_lines (take l.entry-index l.list))
