use native.Mathlib.Omega.{arith}
use Rattle.styling.proofs.Entries.{transcribed_refused, place_inside, laid, lying, at_most, transcribed-short, never_short, transcribed-done}
use Rattle.styling.proofs.transcribe_styled.Goals as goal

pub returns-in_err-head : goal.returns-in_err-head
returns-in_err-head c =
    transcribed_refused _ _ _ _ c.in_err-head.ensures.sign _ _ c.from_residual.ensures.1

pub sign_size-from-requires : goal.sign_size-from-requires
sign_size-from-requires c =
    let k = (laid _ _ _ _ _ c.in_ok-head.ensures.sign).counted in (k.prefix, k.symbols)

pub overflow_sub-size : goal.overflow_sub-size
overflow_sub-size c =
    place_inside _ _ _ _ _ c.in_ok-head.ensures.sign

pub overflow_add-size : goal.overflow_add-size
overflow_add-size c =
    omega (arith, at_most _ _ _ _ _ c.in_ok-head.ensures.sign _ c.other_set-other.ensures _ c.sign_size-from.ensures)

pub returns-then-out-size : goal.returns-then-out-size
returns-then-out-size c =
    transcribed-short _ _ _ _ _ c.in_ok-head.ensures.sign _ c.other_set-other.ensures _ c.sign_size-from.ensures _ c.if-out-size.true

pub write_sign-requires : goal.write_sign-requires
write_sign-requires c =
    let l = lying _ _ _ _ _ c.in_ok-head.ensures.sign in (l.prefix_most, l.symbols_most, l.valid)

pub returns-in_err-write_sign : goal.returns-in_err-write_sign
returns-in_err-write_sign c =
    never_short _ _ _ _ _ c.in_ok-head.ensures.sign _ c.other_set-other.ensures _ c.sign_size-from.ensures _ _ c.if-out-size.false _ c.write_sign.ensures _ c.in_err-write_sign.was

pub slice_bounds-put_rest-count : goal.slice_bounds-put_rest-count
slice_bounds-put_rest-count c =
    place_inside _ _ _ _ _ c.in_ok-head.ensures.sign

pub slice_bounds-put_rest-start : goal.slice_bounds-put_rest-start
slice_bounds-put_rest-start c =
    place_inside _ _ _ _ _ c.in_ok-head.ensures.sign

pub returns : goal.returns
returns c =
    transcribed-done _ _ _ _ _ c.in_ok-head.ensures.sign _ c.other_set-other.ensures _ c.sign_size-from.ensures _ _ c.if-out-size.false _ c.write_sign.ensures _ _ c.put_rest.ensures
