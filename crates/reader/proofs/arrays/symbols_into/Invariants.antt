use Prim.Native.Nat.{◌-◌}
use lib.ListN.{length}
use Rattle.reader.proofs.Loops.{SymbolsInv}
use Rattle.reader.proofs.arrays.symbols_into.Given as goal

abbrev pub invariant-loop-i : goal.invariant-loop-i
invariant-loop-i l = SymbolsInv l.set l.s l.at l.n l.i l.fn.symbols l.symbols

abbrev pub decreases-loop-i : goal.decreases-loop-i
decreases-loop-i l = length l.s - l.i
