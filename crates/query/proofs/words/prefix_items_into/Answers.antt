use native.Mathlib.Omega.{arith}
use Rattle.token.proofs.Handed.{handed}
use Rattle.query.proofs.Prefixes.{prefix_refused, prefix_none, prefix_none_cut, prefix-fails, prefix_room, prefix-items}
use Rattle.query.proofs.words.prefix_items_into.Goals as goal

pub returns-in_err-items : goal.returns-in_err-items
returns-in_err-items c = rw (handed _ _ c.from_residual.ensures.1) (prefix_refused c.args.edition _ c.requires.0 _ _ c.requires.1 _ c.items_into.ensures _ c.in_err-items.was)

pub returns-then-items-s : goal.returns-then-items-s
returns-then-items-s c = prefix_none c.args.edition _ c.requires.0 _ _ c.requires.1 _ c.items_into.ensures _ c.in_ok-items.was c.if-items-eq0.true c.if-items-s.true

pub returns-then-items-eq0 : goal.returns-then-items-eq0
returns-then-items-eq0 c = prefix_none_cut c.args.edition _ c.requires.0 _ _ c.requires.1 _ c.items_into.ensures _ c.in_ok-items.was c.if-items-eq0.true c.if-items-s.false

pub returns-in_err-byte_at : goal.returns-in_err-byte_at
returns-in_err-byte_at c = rw (handed _ _ c.from_residual-in_err-byte_at.ensures.1) (prefix-fails c.args.edition _ c.requires.0 _ _ c.requires.1 _ c.items_into.ensures _ c.in_ok-items.was c.if-items-eq0.false _ c.byte_at.ensures _ c.in_err-byte_at.was)

pub overflow_add-result : goal.overflow_add-result
overflow_add-result c = omega (arith, prefix_room c.args.edition _ c.requires.0 _ _ c.requires.1 _ c.items_into.ensures _ c.in_ok-items.was c.if-items-eq0.false _ c.byte_at.ensures _ c.in_ok-byte_at.was, c.well_formed)

pub returns : goal.returns
returns c = prefix-items c.args.edition _ c.requires.0 _ _ c.requires.1 _ c.items_into.ensures _ c.in_ok-items.was c.if-items-eq0.false _ c.byte_at.ensures _ c.in_ok-byte_at.was
