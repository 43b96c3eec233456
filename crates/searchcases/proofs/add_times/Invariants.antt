use Rattle.std.proofs.Common.{◌≤◌, ◌≡◌, length}
use Rattle.searchcases.proofs.add_times.Given as goal

abbrev pub invariant-loop : goal.invariant-loop
invariant-loop l = (l.end ≤ length l.input) × (length l.input ≡ length l.initial.input)
