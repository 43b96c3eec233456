-- A number that is moved and stays in 250 to 749.
use Prim.Native.Nat.{ℕ, ◌+◌}
use mathlib.Core.Path.{◌≡◌}
use mathlib.Core.Bool.{true}
use Rattle.std.proofs.Common.{arith}
use Rattle.std.proofs.lemmas.Int.{ints}
use lib.IntN.{ℤ, sub_ℕ}
use Rattle.grammar.specs.Sign.{Number}
use Rattle.moving.specs.Moves.{stays, moved_number}

pub stays_number : (z : ℤ) (n : ℕ) → stays z n ≡ true → Number (moved_number z n)
stays_number z n e = (grind (arith, ints), grind (arith, ints))

-- what stays has moved by u and back by d
pub stays_along : (u d n : ℕ) → stays (sub_ℕ u d) n ≡ true → moved_number (sub_ℕ u d) n + d ≡ n + u
stays_along u d n e = grind (arith, ints)
