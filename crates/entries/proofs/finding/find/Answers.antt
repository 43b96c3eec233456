use Prim.Native.Nat.{◌+◌}
use native.Mathlib.Omega.{arith}
use Rattle.token.proofs.Handed.{handed}
use Rattle.lines.proofs.Starts.{Line}
use Rattle.entries.proofs.Walking.{walking_within, walking_line, walking_room, walking_free}
use Rattle.entries.proofs.Seeking.{seeking_start, seeking_few, seeking_end, seeking_kept, seeking_wrong, seeking_met, seeking_unmet}
use Rattle.entries.proofs.finding.find.Goals as goal
use Rattle.entries.proofs.finding.find.Goals.{else-meets, then-meets}

pub loop-passed-init : goal.loop-passed-init
loop-passed-init c = seeking_start _ _ _ _ _ _ c.args.book.counted c.requires.1 c.requires.2

pub line_end-end-requires : goal.line_end-end-requires
line_end-end-requires c = omega (arith, walking_within c.loop-passed.invariant.walk c.loop-passed-test.true)

pub slice_bounds-judge_listed-end : goal.slice_bounds-judge_listed-end
slice_bounds-judge_listed-end c = omega (arith, (walking_line c.loop-passed.invariant.walk c.loop-passed-test.true _ c.line_end-end.ensures).high)

pub returns-in_err-meets-clause-found : goal.returns-in_err-meets-clause-found
returns-in_err-meets-clause-found c =
    rw (handed _ _ c.from_residual.ensures.1)
    (seeking_wrong c.loop-passed.invariant c.loop-passed-test.true (walking_line c.loop-passed.invariant.walk c.loop-passed-test.true _ c.line_end-end.ensures) c.judge_listed.ensures c.in_err-meets.was)

pub returns-in_err-meets-clause-kept : goal.returns-in_err-meets-clause-kept
returns-in_err-meets-clause-kept c = rw (handed _ _ c.from_residual.ensures.1) (seeking_kept c.loop-passed.invariant)

pub add-requires : goal.add-requires
add-requires c = (walking_room c.loop-passed.invariant.walk c.loop-passed-test.true, walking_free c.loop-passed.invariant.walk)

pub overflow_add-met : goal.overflow_add-met
overflow_add-met c = omega (arith, seeking_few c.loop-passed.invariant)

pub overflow_add-start : goal.overflow_add-start
overflow_add-start c = omega (arith, (walking_line c.loop-passed.invariant.walk c.loop-passed-test.true _ c.line_end-end.ensures).high)

pub loop-passed-preserved : goal.loop-passed-preserved
loop-passed-preserved c =
    let here : Line c.args.book.dict.now (c.loop-passed.passed + 1) c.loop-passed.start c.line_end-end.result = walking_line c.loop-passed.invariant.walk c.loop-passed-test.true _ c.line_end-end.ensures in
    elim c.if-meets.branch [
      | then-meets w ↦ rw (w.bits-is, w.met-is, w.add.ensures) (seeking_met c.loop-passed.invariant c.loop-passed-test.true here c.judge_listed.ensures c.in_ok-meets.was w.if-meets.true)
      | else-meets w ↦ rw (w.bits-is, w.met-is) (seeking_unmet c.loop-passed.invariant c.loop-passed-test.true here c.judge_listed.ensures c.in_ok-meets.was w.if-meets.false)
    ]

pub returns : goal.returns
returns c = seeking_end c.loop-passed.invariant (omega arith) c.loop-passed-test.false
