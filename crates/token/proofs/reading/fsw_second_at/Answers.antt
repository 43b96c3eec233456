use Rattle.format.specs.Format.{atomic}
use Rattle.charset.specs.Tokens.{fsw_number}
use Rattle.token.proofs.Told.{hands_on}
use Rattle.token.proofs.Keys.{after_fails, after_told}
use Rattle.token.proofs.reading.fsw_second_at.Goals as goal

pub returns-in_err-byte_at : goal.returns-in_err-byte_at
returns-in_err-byte_at c =
    hands_on _ _ _ _ c.from_residual.ensures.1 c.in_err-byte_at.was (after_fails 120 (atomic fsw_number) _ _ _ c.byte_at.ensures)

pub returns : goal.returns
returns c = after_told 120 (atomic fsw_number) _ _ _ _ _ c.byte_at.ensures c.in_ok-byte_at.was c.number_at.ensures
