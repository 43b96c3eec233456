use mathlib.Core.Path.{ap}
use native.Mathlib.Omega.{arith}
use Rattle.lines.specs.Lines.{place_in}
use Rattle.lines.proofs.Starts.{Line, start_within, line_at}
use Rattle.lines.proofs.walk.line.Goals as goal

pub line_end-e-requires : goal.line_end-e-requires
line_end-e-requires c = omega (arith, start_within _ _ _ c.requires.0 c.requires.1 c.line_start-a.ensures)

pub slice_bounds-result-end : goal.slice_bounds-result-end
slice_bounds-result-end c =
    let here : Line c.args.d.now c.args.k c.line_start-a.result c.line_end-e.result = line_at _ _ _ c.requires.0 c.requires.1 c.line_start-a.ensures _ c.line_end-e.ensures in
    omega (arith, here.high)

pub returns : goal.returns
returns c =
    let here : Line c.args.d.now c.args.k c.line_start-a.result c.line_end-e.result = line_at _ _ _ c.requires.0 c.requires.1 c.line_start-a.ensures _ c.line_end-e.ensures in
    record { bytes = here.part; place = ap (place_in c.args.d) c.line_start-a.ensures }
