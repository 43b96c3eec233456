use Rattle.std.proofs.Common.{◌≤◌, ◌≡◌, length}
use Rattle.searchcases.proofs.follow_all.Given as goal

abbrev pub invariant-loop-k : goal.invariant-loop-k
invariant-loop-k g l = (l.at ≤ length l.input) × (length l.input ≡ 50178)
