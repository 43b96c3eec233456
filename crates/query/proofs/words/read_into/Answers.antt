use Rattle.token.proofs.Handed.{handed}
use Rattle.query.proofs.Openings.{asks_it, q_fails}
use Rattle.query.proofs.Texts.{text_fails}
use Rattle.query.proofs.words.read_into.Goals as goal

pub returns-in_err-byte_at : goal.returns-in_err-byte_at
returns-in_err-byte_at c = rw (handed _ _ c.from_residual.ensures.1) (text_fails c.args.edition _ _ _ _ (q_fails c.args.edition _ _ c.byte_at.ensures _ c.in_err-byte_at.was))

pub after_q_into-requires : goal.after_q_into-requires
after_q_into-requires c = (asks_it c.args.edition _ _ c.byte_at.ensures _ c.in_ok-byte_at.was, c.requires)
