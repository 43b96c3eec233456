use Prim.Native.Nat.{◌+◌}
use native.Mathlib.Omega.{arith}
use Rattle.lines.proofs.Starts.{Line}
use Rattle.entries.proofs.Lines.{unread_unlisted, unread_sign, unread_wrong}
use Rattle.entries.proofs.Walking.{walking_start, walking_within, walking_line, walking_room, walking_free, walking-in, walking-out, walking_end}
use Rattle.entries.proofs.reading.add_wrong.Goals as goal
use Rattle.entries.proofs.reading.add_wrong.Goals.{then-has+then-not-is_sign, else-has, else-has-via-then-has+else-not-is_sign, else-has-via-else-has}

pub loop-passed-init : goal.loop-passed-init
loop-passed-init c = walking_start _ _ _ _ c.args.book.counted c.requires.1 c.requires.2

pub line_end-end-requires : goal.line_end-end-requires
line_end-end-requires c = omega (arith, walking_within c.loop-passed.invariant c.loop-passed-test.true)

pub slice_bounds-is_sign-end : goal.slice_bounds-is_sign-end
slice_bounds-is_sign-end c =
    let here : Line c.args.book.dict.now (c.loop-passed.passed + 1) c.loop-passed.at c.line_end-end.result = walking_line c.loop-passed.invariant c.loop-passed-test.true _ c.line_end-end.ensures in
    omega (arith, here.high)

pub add-requires : goal.add-requires
add-requires c = (walking_room c.loop-passed.invariant c.loop-passed-test.true, walking_free c.loop-passed.invariant)

pub overflow_add-at : goal.overflow_add-at
overflow_add-at c =
    let here : Line c.args.book.dict.now (c.loop-passed.passed + 1) c.loop-passed.at c.line_end-end.result = walking_line c.loop-passed.invariant c.loop-passed-test.true _ c.line_end-end.ensures in
    omega (arith, here.high)

pub loop-passed-preserved : goal.loop-passed-preserved
loop-passed-preserved c =
    let here : Line c.args.book.dict.now (c.loop-passed.passed + 1) c.loop-passed.at c.line_end-end.result = walking_line c.loop-passed.invariant c.loop-passed-test.true _ c.line_end-end.ensures in
    elim c.if-has.branch [
      | then-has+then-not-is_sign w ↦
          rw (w.wrong-is, w.add.ensures) (walking-in c.loop-passed.invariant c.loop-passed-test.true here (unread_wrong _ _ _ here c.has.ensures w.if-has.true w.is_sign.ensures w.if-not-is_sign.true))
      | else-has w ↦
          rw w.wrong-is (walking-out c.loop-passed.invariant c.loop-passed-test.true here
          (elim w.else-has.branch [
            | else-has-via-then-has+else-not-is_sign v ↦ unread_sign c.args.book.set _ _ here c.has.ensures v.if-has.true v.is_sign.ensures v.if-not-is_sign.false
            | else-has-via-else-has v ↦ unread_unlisted c.args.book.set _ _ here c.has.ensures v.if-has.false
          ]))
    ]

pub returns : goal.returns
returns c = record { long = c.loop-passed.invariant.long; holds = walking_end c.loop-passed.invariant (omega arith) c.loop-passed-test.false }
