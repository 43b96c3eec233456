use native.Mathlib.Omega.{arith}
use lib.Seq.{length-take-le}
use Rattle.list.proofs.Loops.{InFront, in_front}
use Rattle.list.proofs.Sets.{adding_short, adding_start, adding_low, adding_high, adding-free, adding-more, adding_end}
use Rattle.list.proofs.bits.add_rising.Goals as goal
use Rattle.list.proofs.bits.add_rising.Goals.{then-e-last-via-then-e-last, then-e-last-via-else-e-last+then-past}

pub returns-then-list-n : goal.returns-then-list-n
returns-then-list-n c = adding_short _ _ _ _ c.if-list-n.true

pub loop-entry-init : goal.loop-entry-init
loop-entry-init c = adding_start _ _ _ _ c.if-list-n.false (omega arith) c.requires.1

pub returns-then-e-last : goal.returns-then-e-last
returns-then-e-last c =
    let here : InFront c.args.list.now c.args.n c.loop-entry.entry-index c.from-e.result = in_front _ _ _ _ c.if-list-n.false c.loop-entry-test.true c.from-e.ensures in
    elim c.then-e-last.branch [
      | then-e-last-via-then-e-last w ↦ adding_low c.loop-entry.invariant here.below (rw here.is at w.if-e-last.true)
      | then-e-last-via-else-e-last+then-past w ↦ adding_high c.loop-entry.invariant here.below (rw here.is at w.if-past.true)
    ]

pub add-requires : goal.add-requires
add-requires c =
    let here : InFront c.args.list.now c.args.n c.loop-entry.entry-index c.from-e.result = in_front _ _ _ _ c.if-list-n.false c.loop-entry-test.true c.from-e.ensures in
    (omega arith, rw here.is (adding-free c.loop-entry.invariant here.below (rw here.is at c.if-e-last.false) (rw here.is at c.if-past.false)))

pub loop-entry-preserved : goal.loop-entry-preserved
loop-entry-preserved c =
    let here : InFront c.args.list.now c.args.n c.loop-entry.entry-index c.from-e.result = in_front _ _ _ _ c.if-list-n.false c.loop-entry-test.true c.from-e.ensures in
    rw (c.add.ensures, here.is) (adding-more c.loop-entry.invariant here.below (rw here.is at c.if-e-last.false) (rw here.is at c.if-past.false))

pub returns : goal.returns
returns c = adding_end c.loop-entry.invariant (omega (arith, length-take-le c.args.n c.args.list.now c.if-list-n.false))
