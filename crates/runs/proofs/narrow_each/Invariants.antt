use mathlib.Core.Path.{◌≡◌}
use mathlib.Core.List.{map}
use lib.ListN.{length}
use Rattle.lines.specs.Lines.{lines}
use Rattle.narrowing.specs.Run.{run}
use Rattle.dictionary.specs.Narrowing.{narrowed}
use Rattle.runs.specs.Runs.{asking}
use Rattle.runs.proofs.Running.{Running}
use Rattle.runs.proofs.narrow_each.Given as goal

abbrev pub invariant-loop : goal.invariant-loop
invariant-loop l = Running (narrowed l.set l.dict) l.queries (run (narrowed l.set l.dict) (map asking (lines l.queries)) l.initial.list l.n) l.list l.left.kept l.left.dropped l.start l.counter × (length l.list ≡ length l.initial.list)
