use mathlib.Core.Path.{sym, ◌∙◌}
use Rattle.stylinggrammar.specs.Styling.{line_and_fill}
use Rattle.stylinggrammar.proofs.Styling.{line_and_fill_lawful}
use Rattle.stylingreader.specs.Takings.{take_detail}
use Rattle.stylingreader.proofs.Chains.{handed_part, byte_room}
use Rattle.stylingreader.proofs.Details.{unopened, inner_fails, inner_closed}
use Rattle.stylingreader.proofs.colour.detail_at.Goals as goal

pub returns-in_err-byte_at : goal.returns-in_err-byte_at
returns-in_err-byte_at c = handed_part c.from_residual.ensures.1 (unopened line_and_fill line_and_fill_lawful (take_detail c.args.base) _ _ _ _ _ (sym c.byte_at.ensures ∙ c.in_err-byte_at.was))

pub line_and_fill_at-requires : goal.line_and_fill_at-requires
line_and_fill_at-requires c = (byte_room _ _ _ _ (sym c.byte_at.ensures ∙ c.in_ok-byte_at.was), c.requires.1)

pub returns-in_err-colours : goal.returns-in_err-colours
returns-in_err-colours c = handed_part c.from_residual-in_err-colours.ensures.1 (inner_fails line_and_fill line_and_fill_lawful (take_detail c.args.base) _ _ _ _ _ (sym c.byte_at.ensures ∙ c.in_ok-byte_at.was) _ c.in_err-colours.ensures)

pub returns : goal.returns
returns c = inner_closed line_and_fill line_and_fill_lawful (take_detail c.args.base) _ _ _ _ _ (sym c.byte_at.ensures ∙ c.in_ok-byte_at.was) _ c.in_ok-colours.ensures _ c.closed.ensures
