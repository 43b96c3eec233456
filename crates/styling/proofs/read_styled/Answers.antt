use Rattle.styling.proofs.Entries.{reading_refused, place_inside, ready, laid, reading_done}
use Rattle.styling.proofs.read_styled.Goals as goal

pub returns-in_err-head : goal.returns-in_err-head
returns-in_err-head c =
    reading_refused _ _ _ _ c.in_err-head.ensures.sign _ _ c.from_residual.ensures.1

pub slice_bounds-fill-count : goal.slice_bounds-fill-count
slice_bounds-fill-count c =
    place_inside _ _ _ _ _ c.in_ok-head.ensures.sign

pub slice_bounds-fill-start : goal.slice_bounds-fill-start
slice_bounds-fill-start c =
    place_inside _ _ _ _ _ c.in_ok-head.ensures.sign

pub fill-requires : goal.fill-requires
fill-requires c =
    ready _ _ _ _ _ c.in_ok-head.ensures.sign _ c.in_ok-head.ensures.styling

pub packed-requires : goal.packed-requires
packed-requires c =
    (laid _ _ _ _ _ c.in_ok-head.ensures.sign).counted

pub returns : goal.returns
returns c =
    reading_done _ _ _ _ _ c.in_ok-head.ensures.sign _ _ _ c.packed.ensures c.fill.ensures
