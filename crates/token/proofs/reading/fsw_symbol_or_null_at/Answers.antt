use Rattle.charset.specs.Tokens.{null_or_key}
use Rattle.token.proofs.Told.{hands_on}
use Rattle.token.proofs.Keys.{after_fails, after_told}
use Rattle.token.proofs.reading.fsw_symbol_or_null_at.Goals as goal

pub returns-in_err-byte_at : goal.returns-in_err-byte_at
returns-in_err-byte_at c =
    hands_on _ _ _ _ c.from_residual.ensures.1 c.in_err-byte_at.was (after_fails 83 (null_or_key c.args.top) _ _ _ c.byte_at.ensures)

pub returns : goal.returns
returns c = after_told 83 (null_or_key c.args.top) _ _ _ _ _ c.byte_at.ensures c.in_ok-byte_at.was c.null_or_key_at.ensures
