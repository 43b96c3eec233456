use Prim.Native.Nat.{◌+◌}
use Rattle.matching.proofs.Tests.{Fitting}
use Rattle.matching.proofs.judging.Row.fits.Given as goal

abbrev pub invariant-loop-k : goal.invariant-loop-k
invariant-loop-k l = Fitting l.self.words.now l.code (l.self.at + 3) l.n l.k
