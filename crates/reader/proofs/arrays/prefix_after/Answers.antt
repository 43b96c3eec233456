use Rattle.token.proofs.Handed.{handed}
use Rattle.reader.proofs.Prefixes.{prefix_room, prefix-bad, prefix-some, prefix_none, prefix_none_cut}
use Rattle.reader.proofs.arrays.prefix_after.Goals as goal

pub prefix_into-requires : goal.prefix_into-requires
prefix_into-requires c = (prefix_room c.args.set c.args.s.now c.requires.0 _ c.marker_size-size.ensures, c.requires.1)

pub returns-in_err-found : goal.returns-in_err-found
returns-in_err-found c =
    rw (handed _ _ c.from_residual.ensures.1)
    (prefix-bad _ _ c.requires.0 _ c.marker_size-size.ensures _ _ c.prefix_into.ensures _ c.in_err-found.was)

pub returns-then-some : goal.returns-then-some
returns-then-some c = prefix-some _ _ c.requires.0 _ c.marker_size-size.ensures _ _ c.prefix_into.ensures _ c.in_ok-found.was c.if-some.true

pub returns-then-found-s : goal.returns-then-found-s
returns-then-found-s c = prefix_none _ _ c.requires.0 _ c.marker_size-size.ensures _ _ c.prefix_into.ensures _ c.in_ok-found.was c.if-some.false c.if-found-s.true

pub returns : goal.returns
returns c = prefix_none_cut _ _ c.requires.0 _ c.marker_size-size.ensures _ _ c.prefix_into.ensures _ c.in_ok-found.was c.if-some.false c.if-found-s.false
