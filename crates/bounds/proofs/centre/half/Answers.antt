use Prim.Native.Nat.{◌^◌}
use native.Mathlib.Omega.{arith}
use lib.Dec.{le→leb}
use lib.Ieee.{of_bits, in_float}
use Rattle.bounds.proofs.Halves.{times_part}
use Rattle.bounds.proofs.centre.half.Goals as goal

pub int_to_float-result : goal.int_to_float-result
unfolding in_float
int_to_float-result c = le→leb c.args.doubled (2 ^ 24) (omega arith)

pub returns : goal.returns
unfolding of_bits
returns c = times_part c.args.doubled 0 (omega arith)
