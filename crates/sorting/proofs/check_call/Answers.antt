use Prim.Native.Nat.{ℕ}
use mathlib.Core.Path.{sym, ap, ◌∙◌}
use lib.ListN.{length-replicate}
use Rattle.token.proofs.Handed.{handed}
use Rattle.token.specs.Result.{outcome}
use Rattle.lines.proofs.Counts.{count_refused, count_done, count_is}
use Rattle.narrowing.proofs.Told.{told_bad, told_good}
use Rattle.list.proofs.Sets.{none_in, set_room}
use Rattle.sorting.proofs.Sortings.{by_dictionary, by_11, by_13, by-6, by-done}
use Rattle.sorting.proofs.check_call.Goals as goal

pub returns-in_err-lines : goal.returns-in_err-lines
returns-in_err-lines c =
    ap outcome (handed _ _ c.from_residual.ensures.1)
    ∙ by_dictionary c.args.set _ c.args.list.now c.args.n c.args.room _ _ (count_refused _ c.count_lines.ensures c.in_err-lines.was)

pub add_distinct-requires : goal.add_distinct-requires
add_distinct-requires c = (set_room (count_is _ c.count_lines.ensures c.in_ok-lines.was).few (length-replicate {A = ℕ} 8192 0), none_in 8192)

pub returns-then-not-add_distinct : goal.returns-then-not-add_distinct
returns-then-not-add_distinct c =
    by_11 c.args.set _ c.args.list.now c.args.n c.args.room (count_done _ c.count_lines.ensures c.in_ok-lines.was) _ c.add_distinct.ensures.apart c.if-not-add_distinct.true

pub first_wrong_listed-requires : goal.first_wrong_listed-requires
first_wrong_listed-requires c =
    let k = count_is _ c.count_lines.ensures c.in_ok-lines.was in
    (k.few, sym c.add_distinct.ensures.apart ∙ c.if-not-add_distinct.false, c.add_distinct.ensures.lists.marks c.if-not-add_distinct.false)

pub returns-in-Some : goal.returns-in-Some
returns-in-Some c =
    let w = told_bad _ _ (sym c.in-Some.is ∙ c.first_wrong_listed.ensures) in
    by_13 c.args.set _ c.args.list.now c.args.n c.args.room (count_done _ c.count_lines.ensures c.in_ok-lines.was) _ c.add_distinct.ensures.apart c.if-not-add_distinct.false _ w.is w.some

pub returns-then-room-n : goal.returns-then-room-n
returns-then-room-n c =
    by-6 c.args.set _ c.args.list.now c.args.n c.args.room (count_done _ c.count_lines.ensures c.in_ok-lines.was) _ c.add_distinct.ensures.apart c.if-not-add_distinct.false
    (told_good _ (sym c.in_default.is ∙ c.first_wrong_listed.ensures)) c.if-room-n.true

pub returns : goal.returns
returns c =
    by-done c.args.set _ c.args.list.now c.args.n c.args.room (count_done _ c.count_lines.ensures c.in_ok-lines.was) _ c.add_distinct.ensures.apart c.if-not-add_distinct.false
    (told_good _ (sym c.in_default.is ∙ c.first_wrong_listed.ensures)) c.if-room-n.false
