use native.Mathlib.Omega.{arith}
use Rattle.lines.proofs.Starts.{start_within, line_at}
use Rattle.layout.proofs.Finding.{line_told}
use Rattle.layout.proofs.fetched.line_numbers.Goals as goal

pub line_end-end-requires : goal.line_end-end-requires
line_end-end-requires c = omega (arith, start_within _ _ _ c.requires.0 c.requires.1 c.line_start-start.ensures)

pub returns : goal.returns
returns c = line_told _ _ _ _ _ c.line_start-start.ensures (line_at _ _ _ c.requires.0 c.requires.1 c.line_start-start.ensures _ c.line_end-end.ensures)
