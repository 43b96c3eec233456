use Prim.Native.Nat.{◌/◌}
use native.Mathlib.Omega.{arith}
use borrow.Author.Rules.{rules}
use lib.ListN.{get_or}
use Rattle.list.proofs.Bytes.{one_more}
use Rattle.list.proofs.bits.add.Goals as goal

pub overflow_add-bits : goal.overflow_add-bits
overflow_add-bits c = omega (arith, one_more (get_or c.args.bits.now (c.args.e / 8) 0) c.args.e (search rules) c.requires.1)
