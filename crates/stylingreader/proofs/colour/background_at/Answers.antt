use mathlib.Core.Path.{sym, ◌∙◌}
use Rattle.stylinggrammar.specs.Styling.{colour}
use Rattle.stylinggrammar.proofs.Colours.{colour_lawful}
use Rattle.stylingreader.specs.Takings.{take_colour}
use Rattle.stylingreader.proofs.Chains.{handed_part, byte_room}
use Rattle.stylingreader.proofs.Details.{unopened, inner_fails, inner_closed}
use Rattle.stylingreader.proofs.colour.background_at.Goals as goal

pub returns-in_err-byte_at : goal.returns-in_err-byte_at
returns-in_err-byte_at c = handed_part c.from_residual.ensures.1 (unopened colour colour_lawful (take_colour c.args.base) _ _ _ _ _ (sym c.byte_at.ensures ∙ c.in_err-byte_at.was))

pub colour_at-requires : goal.colour_at-requires
colour_at-requires c = (byte_room _ _ _ _ (sym c.byte_at.ensures ∙ c.in_ok-byte_at.was), c.requires.1)

pub returns-in_err-one : goal.returns-in_err-one
returns-in_err-one c = handed_part c.from_residual-in_err-one.ensures.1 (inner_fails colour colour_lawful (take_colour c.args.base) _ _ _ _ _ (sym c.byte_at.ensures ∙ c.in_ok-byte_at.was) _ c.in_err-one.ensures)

pub returns : goal.returns
returns c = inner_closed colour colour_lawful (take_colour c.args.base) _ _ _ _ _ (sym c.byte_at.ensures ∙ c.in_ok-byte_at.was) _ c.in_ok-one.ensures _ c.closed.ensures
