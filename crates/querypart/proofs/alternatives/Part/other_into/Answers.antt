use Rattle.token.proofs.Handed.{handed}
use Rattle.querypart.proofs.Lists.{other_room, other_found, other_fails}
use Rattle.querypart.proofs.alternatives.Part.other_into.Goals as goal

pub returns-in_err-byte_at : goal.returns-in_err-byte_at
returns-in_err-byte_at c = rw (handed _ _ c.from_residual.ensures.1) (other_fails _ _ _ _ _ _ _ c.byte_at.ensures _ c.in_err-byte_at.was)

pub one_into-requires : goal.one_into-requires
one_into-requires c = (other_room c.args.self.edition c.args.self.boxed _ _ c.args.slot c.args.words.now _ c.byte_at.ensures _ c.in_ok-byte_at.was, c.requires.1)

pub returns : goal.returns
returns c = other_found c.args.self.edition c.args.self.boxed _ _ _ _ _ c.byte_at.ensures _ c.in_ok-byte_at.was _ _ c.one_into.ensures
