use native.Mathlib.Omega.{arith}
use Rattle.lines.proofs.Starts.{start_first}
use Rattle.lines.proofs.walk.line_start.Goals as goal

pub start_from-requires : goal.start_from-requires
start_from-requires c = (omega arith, c.requires.0, c.requires.1, start_first _)
