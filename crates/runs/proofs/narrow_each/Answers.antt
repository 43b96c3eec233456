use Prim.Native.Nat.{◌+◌, ◌<◌}
use mathlib.Core.Path.{refl}
use native.Mathlib.Omega.{arith}
use lib.ListN.{length}
use Rattle.lines.specs.Lines.{lines}
use Rattle.lines.proofs.Starts.{Line, start_within}
use Rattle.runs.proofs.Running.{running_start, running_end, running_line, running-dropped, running_more}
use Rattle.runs.proofs.narrow_each.Goals as goal

-- there is a query to be asked, and it lies here

pub loop-init : goal.loop-init
loop-init c = (running_start _ _ _ _, refl)

pub line_end-end-requires : goal.line_end-end-requires
line_end-end-requires c = omega (arith, start_within _ _ _ (omega arith) (omega (arith, c.loop-test.true, c.count-end.ensures)) c.loop.invariant.0.here)

pub slice_bounds-line-count : goal.slice_bounds-line-count
slice_bounds-line-count c =
    let here : Line c.args.queries.now (c.loop.counter + 1) c.loop.start c.line_end-end.result = running_line c.loop.invariant.0 (omega (arith, c.count-end.ensures)) _ c.line_end-end.ensures in
    omega (arith, here.low)

pub slice_bounds-line-start : goal.slice_bounds-line-start
slice_bounds-line-start c =
    let here : Line c.args.queries.now (c.loop.counter + 1) c.loop.start c.line_end-end.result = running_line c.loop.invariant.0 (omega (arith, c.count-end.ensures)) _ c.line_end-end.ensures in
    omega (arith, here.low)

pub slice_bounds-line-end : goal.slice_bounds-line-end
slice_bounds-line-end c =
    let here : Line c.args.queries.now (c.loop.counter + 1) c.loop.start c.line_end-end.result = running_line c.loop.invariant.0 (omega (arith, c.count-end.ensures)) _ c.line_end-end.ensures in
    omega (arith, here.high)

pub after_call-left-requires : goal.after_call-left-requires
after_call-left-requires c =
    let made : c.loop.counter < length (lines c.args.queries.now) = omega (arith, c.count-end.ensures) in
    let here : Line c.args.queries.now (c.loop.counter + 1) c.loop.start c.line_end-end.result = running_line c.loop.invariant.0 made _ c.line_end-end.ensures in
    omega (arith, running-dropped c.loop.invariant.0 made here _ _ c.asked-edition.ensures c.narrow.ensures, c.requires)

pub overflow_add-start : goal.overflow_add-start
overflow_add-start c =
    let here : Line c.args.queries.now (c.loop.counter + 1) c.loop.start c.line_end-end.result = running_line c.loop.invariant.0 (omega (arith, c.count-end.ensures)) _ c.line_end-end.ensures in
    omega (arith, here.high)

pub loop-preserved : goal.loop-preserved
loop-preserved c =
    let made : c.loop.counter < length (lines c.args.queries.now) = omega (arith, c.count-end.ensures) in
    let here : Line c.args.queries.now (c.loop.counter + 1) c.loop.start c.line_end-end.result = running_line c.loop.invariant.0 made _ c.line_end-end.ensures in
    (rw c.after_call-left.ensures (running_more c.loop.invariant.0 made here _ _ c.asked-edition.ensures c.narrow.ensures), omega arith)

pub returns : goal.returns
returns c = running_end c.loop.invariant.0 (omega (arith, c.count-end.ensures, c.loop-test.false))
