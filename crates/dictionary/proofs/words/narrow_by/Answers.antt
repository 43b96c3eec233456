use Prim.Native.Nat.{ℕ}
use mathlib.Core.Path.{sym, ap, ◌∙◌}
use lib.ListN.{length-replicate}
use Rattle.token.proofs.Handed.{handed}
use Rattle.narrowing.specs.Narrowing.{as_narrowed}
use Rattle.lines.proofs.Counts.{count_refused, count_done, count_is}
use Rattle.list.proofs.Sets.{none_in, set_room}
use Rattle.dictionary.proofs.Narrowings.{kept_most, Ready, by_dictionary, by_11, ready_list, ready_inside, walk_met, by_13, by-done}
use Rattle.dictionary.proofs.words.narrow_by.Goals as goal

pub returns-in_err-lines : goal.returns-in_err-lines
returns-in_err-lines g c =
    ap (λ r. (as_narrowed r, c.args.list.now)) (handed _ _ c.from_residual.ensures.1)
    ∙ by_dictionary g.F.Form.valid c.args.set _ _ _ _ _ _ (count_refused _ c.count_lines.ensures c.in_err-lines.was)

pub add-requires : goal.add-requires
add-requires g c = (set_room (count_is _ c.count_lines.ensures c.in_ok-lines.was).few (length-replicate {A = ℕ} 8192 0), none_in 8192)

pub returns-then-not-add : goal.returns-then-not-add
returns-then-not-add g c =
    by_11 g.F.Form.valid c.args.set _ _ _ _ (count_done _ c.count_lines.ensures c.in_ok-lines.was) _ c.add.ensures.passes c.if-not-add.true

pub find-requires : goal.find-requires
find-requires g c =
    let k = count_is _ c.count_lines.ensures c.in_ok-lines.was in
    (set_room k.few (c.add.ensures.long ∙ length-replicate {A = ℕ} 8192 0), set_room k.few (length-replicate {A = ℕ} 8192 0), none_in 8192)

pub refusal_of-requires : goal.refusal_of-requires
refusal_of-requires g c =
    let x : Ready g.F.Form.valid g.F.Form.lists c.args.dict.now c.args.list.now c.args.n c.in_ok-lines.lines c.add.new.bits =
    record { counted = sym (count_done _ c.count_lines.ensures c.in_ok-lines.was); good = sym c.add.ensures.passes ∙ c.if-not-add.false; set = c.add.ensures.lists c.if-not-add.false } in
    walk_met g.met.F.Form.taken x c.args.set c.args.conditions.words.now _ c.find.ensures.found _ c.in-Err.is

pub returns-in-Err : goal.returns-in-Err
returns-in-Err g c =
    let x : Ready g.F.Form.valid g.F.Form.lists c.args.dict.now c.args.list.now c.args.n c.in_ok-lines.lines c.add.new.bits =
    record { counted = sym (count_done _ c.count_lines.ensures c.in_ok-lines.was); good = sym c.add.ensures.passes ∙ c.if-not-add.false; set = c.add.ensures.lists c.if-not-add.false } in
    by_13 g.met.F.Form.taken x c.args.set c.args.conditions.words.now _ c.refusal_of.ensures

pub compact-kept-requires : goal.compact-kept-requires
compact-kept-requires g c =
    let x : Ready g.F.Form.valid g.F.Form.lists c.args.dict.now c.args.list.now c.args.n c.in_ok-lines.lines c.add.new.bits =
    record { counted = sym (count_done _ c.count_lines.ensures c.in_ok-lines.was); good = sym c.add.ensures.passes ∙ c.if-not-add.false; set = c.add.ensures.lists c.if-not-add.false } in
    (ready_list g.met.F.Form.taken x, ready_inside g.met.F.Form.taken x (c.find.ensures.kept.long ∙ length-replicate {A = ℕ} 8192 0))

pub overflow_sub-dropped : goal.overflow_sub-dropped
overflow_sub-dropped g c = kept_most _ _ _ _ c.compact-kept.ensures.value

pub returns : goal.returns
returns g c =
    let x : Ready g.F.Form.valid g.F.Form.lists c.args.dict.now c.args.list.now c.args.n c.in_ok-lines.lines c.add.new.bits =
    record { counted = sym (count_done _ c.count_lines.ensures c.in_ok-lines.was); good = sym c.add.ensures.passes ∙ c.if-not-add.false; set = c.add.ensures.lists c.if-not-add.false } in
    by-done g.met.F.Form.taken x c.args.set c.args.conditions.words.now _ c.find.ensures.found c.in_default.is c.find.ensures.kept _ _ c.compact-kept.ensures.value c.compact-kept.ensures.list_after
