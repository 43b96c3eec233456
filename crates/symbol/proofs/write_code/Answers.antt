use mathlib.Core.Path.{◌∙◌}
use Rattle.writer.proofs.Answers.{answers_refused, answers_short, answers_done}
use Rattle.writer.proofs.Keys.{symbol_length}
use Rattle.symbol.proofs.Codes.{code_over, code_fine}
use Rattle.symbol.proofs.write_code.Goals as goal

pub returns-then-code-gt-LAST_CODE : goal.returns-then-code-gt-LAST_CODE
returns-then-code-gt-LAST_CODE c = answers_refused _ (code_over _ _ c.if-code-gt-LAST_CODE.true)

pub returns-then-out-size : goal.returns-then-out-size
returns-then-out-size c = answers_short _ (code_fine _ _ c.if-code-gt-LAST_CODE.false) (c.symbol_size-size.ensures ∙ symbol_length c.args.set c.args.code) c.if-out-size.true

pub returns : goal.returns
returns c = answers_done (code_fine _ _ c.if-code-gt-LAST_CODE.false) c.put_symbol.ensures
