use Prim.Native.Nat.{◌+◌}
use mathlib.Core.Path.{◌∙◌}
use native.Mathlib.Omega.{arith}
use Rattle.lines.proofs.Starts.{Line, start_first, start_within, line_at}
use Rattle.narrowing.proofs.Rising.{bad_start, bad_here, bad_later, bad_none}
use Rattle.entries.proofs.Lines.{line_read, some_wrong, no_wrong}
use Rattle.entries.proofs.reading.first_wrong.Goals as goal

pub loop-passed-init : goal.loop-passed-init
loop-passed-init c = (start_first _, bad_start _ _)

pub line_end-end-requires : goal.line_end-end-requires
line_end-end-requires c = omega (arith, start_within _ _ _ (omega arith) (omega arith) c.loop-passed.invariant.0)

pub slice_bounds-is_sign-end : goal.slice_bounds-is_sign-end
slice_bounds-is_sign-end c =
    let here : Line c.args.dict.now (c.loop-passed.passed + 1) c.loop-passed.start c.line_end-end.result = line_at _ _ _ (omega arith) (omega arith) c.loop-passed.invariant.0 _ c.line_end-end.ensures in
    omega (arith, here.high)

pub returns-then-not-is_sign : goal.returns-then-not-is_sign
returns-then-not-is_sign c =
    let here : Line c.args.dict.now (c.loop-passed.passed + 1) c.loop-passed.start c.line_end-end.result = line_at _ _ _ (omega arith) (omega arith) c.loop-passed.invariant.0 _ c.line_end-end.ensures in
    some_wrong _ _ (bad_here _ _ _ _ c.loop-passed.invariant.1 c.loop-passed-test.true (line_read _ _ here c.is_sign.ensures ∙ c.if-not-is_sign.true))

pub overflow_add-start : goal.overflow_add-start
overflow_add-start c =
    let here : Line c.args.dict.now (c.loop-passed.passed + 1) c.loop-passed.start c.line_end-end.result = line_at _ _ _ (omega arith) (omega arith) c.loop-passed.invariant.0 _ c.line_end-end.ensures in
    omega (arith, here.high)

pub loop-passed-preserved : goal.loop-passed-preserved
loop-passed-preserved c =
    let here : Line c.args.dict.now (c.loop-passed.passed + 1) c.loop-passed.start c.line_end-end.result = line_at _ _ _ (omega arith) (omega arith) c.loop-passed.invariant.0 _ c.line_end-end.ensures in
    (here.next, bad_later _ _ _ _ c.loop-passed.invariant.1 c.loop-passed-test.true (line_read _ _ here c.is_sign.ensures ∙ c.if-not-is_sign.false))

pub returns : goal.returns
returns c = no_wrong _ (bad_none _ _ _ _ c.loop-passed.invariant.1 c.loop-passed-test.false)
