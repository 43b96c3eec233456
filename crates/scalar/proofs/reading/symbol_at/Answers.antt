use mathlib.Core.Path.{refl}
use native.Mathlib.Omega.{arith}
use Rattle.token.proofs.Told.{hands_on}
use Rattle.scalar.proofs.Characters.{lead_fails, others_all}
use Rattle.scalar.proofs.reading.symbol_at.Goals as goal

pub returns-in_err-digit_at : goal.returns-in_err-digit_at
returns-in_err-digit_at c =
    hands_on _ _ _ _ c.from_residual.ensures.1 c.in_err-digit_at.was
    (lead_fails 0x40000 _ 62592 1 (omega arith) refl (omega arith) _ _ _ c.digit_at.ensures)

pub returns : goal.returns
returns c =
    others_all 0x40000 c.args.first 62592 1 (omega arith) refl (omega arith) _ _ _ _ c.digit_at.ensures c.in_ok-digit_at.was
    c.args.first 62592 (omega arith) refl _ c.three_at.ensures refl
