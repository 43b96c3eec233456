use Prim.Native.Nat.{◌*◌, ◌^◌, ◌<◌}
use mathlib.Core.Path.{◌≡◌}
use lib.ListN.{take, drop}
use Rattle.prefixes.specs.Words.{number}
use Rattle.prefixes.proofs.order.number_at.Given as goal

abbrev pub invariant-loop-b : goal.invariant-loop-b
invariant-loop-b g l = (l.n ≡ number (take l.b-index (drop l.at l.s))) × (l.n < 2 ^ (8 * l.b-index))
