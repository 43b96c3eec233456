use Rattle.token.proofs.Handed.{handed}
use Rattle.query.proofs.Tails.{items_inside, tail_refused, tail-fails, tail-fine}
use Rattle.query.proofs.words.tail_into.Goals as goal

pub returns-in_err-sought : goal.returns-in_err-sought
returns-in_err-sought c = rw (handed _ _ c.from_residual.ensures.1) (tail_refused c.args.edition _ _ _ c.requires.0 _ _ _ c.items_into.ensures _ c.in_err-sought.was)

pub variance_end-requires : goal.variance_end-requires
variance_end-requires c = items_inside c.args.edition _ _ _ _ _ _ _ c.items_into.ensures _ c.in_ok-sought.was c.requires.0

pub returns-in_err-variance : goal.returns-in_err-variance
returns-in_err-variance c = rw (handed _ _ c.from_residual-in_err-variance.ensures.1) (tail-fails c.args.edition _ _ _ c.requires.0 _ _ _ c.items_into.ensures _ c.in_ok-sought.was _ c.variance_end.ensures _ c.in_err-variance.was)

pub returns : goal.returns
returns c = tail-fine c.args.edition _ _ _ c.requires.0 _ _ _ c.items_into.ensures _ c.in_ok-sought.was _ c.variance_end.ensures _ _ _ c.in_ok-variance.was c.limited_into.ensures
