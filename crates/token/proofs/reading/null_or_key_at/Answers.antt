use mathlib.Core.Path.{sym, ap, ◌∙◌}
use Rattle.std.specs.Prelude.{Err}
use Rattle.charset.specs.Tokens.{null, key, to_either}
use Rattle.charset.proofs.Keys.{null_delimited}
use Rattle.token.proofs.Wrong.{is_wrong, not_wrong}
use Rattle.token.proofs.Keys.{either_this, either_that}
use Rattle.token.proofs.reading.null_or_key_at.Goals as goal

pub returns-in-Err : goal.returns-in-Err
returns-in-Err c =
    either_that null (key c.args.top) to_either _ null_delimited _ _ _ _
    c.null_at-zero.ensures (c.in-Err.is ∙ ap Err (is_wrong _ _ c.if-is_wrong_at.ensures))
    c.key_at.ensures

pub returns-in_default : goal.returns-in_default
returns-in_default c =
    either_this null (key c.args.top) to_either _ null_delimited _ _ _
    (sym c.in-Err.is ∙ c.null_at-zero.ensures) (λ e. not_wrong c.args.at c.in-Err.refusal c.if-is_wrong_at.ensures (cc e))

pub returns-in_default-2 : goal.returns-in_default-2
returns-in_default-2 c =
    either_this null (key c.args.top) to_either _ null_delimited _ _ _
    c.null_at-zero.ensures (λ e. cc (sym c.in_default.is ∙ e))
