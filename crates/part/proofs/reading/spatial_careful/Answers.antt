use Rattle.std.proofs.Common.{sym, ◌∙◌, arith}
use Rattle.charset.proofs.Sets.{lawful}
use Rattle.token.proofs.Handed.{handed}
use Rattle.part.proofs.Placing.{placed_after, placed_refused}
use Rattle.part.proofs.reading.spatial_careful.Goals as goal

pub returns-in_err-code : goal.returns-in_err-code
returns-in_err-code c = handed _ _ c.from_residual.ensures.1 ∙ placed_refused _ _ _ ((lawful c.args.set).symbol 0x37e (omega arith) (omega arith)) _ _ _ (sym c.in_err-code.was ∙ c.symbol_at.ensures)

pub returns : goal.returns
returns c = c.point_after.ensures ∙ placed_after _ _ _ ((lawful c.args.set).symbol 0x37e (omega arith) (omega arith)) _ _ _ _ c.symbol_size-size.ensures (sym c.in_ok-code.was ∙ c.symbol_at.ensures)
