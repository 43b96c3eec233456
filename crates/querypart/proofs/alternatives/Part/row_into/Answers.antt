use borrow.Author.Tests.{not-true, not-false}
use Rattle.token.proofs.Handed.{handed}
use Rattle.querypart.proofs.Rows.{row_fails, row_bare, row_room, row-wrong, row-placed}
use Rattle.querypart.proofs.alternatives.Part.row_into.Goals as goal

pub returns-in_err-listed : goal.returns-in_err-listed
returns-in_err-listed c = rw (handed _ _ c.from_residual.ensures.1) (row_fails c.args.self.edition c.args.self.boxed _ _ _ _ _ _ c.requires.0 c.alternatives_into.ensures _ c.in_err-listed.was)

pub returns-then-not-self : goal.returns-then-not-self
returns-then-not-self c = row_bare c.args.self.edition c.args.self.boxed _ _ _ _ _ _ c.requires.0 c.alternatives_into.ensures _ c.in_ok-listed.was (not-true _ c.if-not-self.true) _ c.min-kept.ensures _ c.put_three.ensures

pub coordinate_at-requires : goal.coordinate_at-requires
coordinate_at-requires c = row_room c.args.self.edition c.args.self.boxed _ _ _ _ _ _ c.requires.0 c.alternatives_into.ensures _ c.in_ok-listed.was (not-false _ c.if-not-self.false)

pub returns-in_err-coordinate : goal.returns-in_err-coordinate
returns-in_err-coordinate c = rw (handed _ _ c.from_residual-in_err-coordinate.ensures.1) (row-wrong c.args.self.edition c.args.self.boxed _ _ _ _ _ _ c.requires.0 c.alternatives_into.ensures _ c.in_ok-listed.was (not-false _ c.if-not-self.false) _ c.coordinate_at.ensures _ c.in_err-coordinate.was)

pub returns : goal.returns
returns c = row-placed c.args.self.edition c.args.self.boxed _ _ _ _ _ _ c.requires.0 c.alternatives_into.ensures _ c.in_ok-listed.was (not-false _ c.if-not-self.false) _ c.coordinate_at.ensures _ _ c.in_ok-coordinate.was _ c.min-kept.ensures c.unwrap_or-x.result c.unwrap_or-x.ensures _ c.put_three-2.ensures
