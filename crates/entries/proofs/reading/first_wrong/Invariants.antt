use Prim.Native.Nat.{◌+◌, ◌-◌}
use mathlib.Core.Path.{◌≡◌}
use Rattle.lines.specs.Lines.{line_start}
use Rattle.narrowing.specs.Narrowing.{entries_from, first_bad}
use Rattle.entries.specs.Entries.{readable}
use Rattle.entries.proofs.reading.first_wrong.Given as goal

abbrev pub invariant-loop-passed : goal.invariant-loop-passed
invariant-loop-passed l =
    (l.start ≡ line_start l.dict (l.passed + 1))
    × (first_bad (readable l.set l.dict) (entries_from (l.passed + 1) (l.n - l.passed)) ≡ first_bad (readable l.set l.dict) (entries_from 1 l.n))
