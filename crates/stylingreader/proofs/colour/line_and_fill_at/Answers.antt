use native.Mathlib.Omega.{arith}
use Rattle.stylingreader.proofs.Chains.{handed_part}
use Rattle.stylingreader.proofs.Details.{line_fails, line_room, line_unfilled, line_filled}
use Rattle.stylingreader.proofs.colour.line_and_fill_at.Goals as goal

pub returns-in_err-line : goal.returns-in_err-line
returns-in_err-line c = handed_part c.from_residual.ensures.1 (line_fails _ _ _ _ c.requires.0 _ _ _ c.in_err-line.ensures)

pub fill_at-requires : goal.fill_at-requires
fill_at-requires c = (line_room _ _ _ _ c.requires.0 _ _ c.in_ok-line.ensures, omega arith)

pub returns-in_err-second : goal.returns-in_err-second
returns-in_err-second c = handed_part c.from_residual-in_err-second.ensures.1 (line_unfilled _ _ _ _ c.requires.0 _ _ c.in_ok-line.ensures _ _ _ c.in_err-second.ensures)

pub returns : goal.returns
returns c = line_filled _ _ _ _ c.requires.0 _ _ c.in_ok-line.ensures _ _ _ c.in_ok-second.ensures c.joined.ensures
