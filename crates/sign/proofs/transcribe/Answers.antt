use Rattle.std.proofs.Common.{arith}
use Rattle.token.proofs.Handed.{handed}
use Rattle.sign.proofs.Transcribing.{lies, transcribed, transcribed_refused}
use Rattle.sign.proofs.transcribe.Goals as goal

pub returns-in_err-read : goal.returns-in_err-read
returns-in_err-read c = rw (handed _ _ c.from_residual.ensures.1) (transcribed_refused _ _ _ _ c.read_into.ensures c.in_err-read.field-0.0 _ (grind arith))

pub write_sign-requires : goal.write_sign-requires
write_sign-requires c =
    let l = lies _ _ _ _ c.read_into.ensures c.in_ok-read.read (grind arith) in
    (l.prefix_most, l.symbols_most, l.valid)

pub returns : goal.returns
returns c = transcribed _ _ _ _ c.read_into.ensures c.in_ok-read.read (grind arith) _ _ _ _ c.other_set.ensures c.write_sign.ensures
