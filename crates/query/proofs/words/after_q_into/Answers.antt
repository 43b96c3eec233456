use native.Mathlib.Omega.{arith}
use mathlib.Core.Path.{refl}
use Rattle.token.proofs.Handed.{handed}
use Rattle.query.proofs.Texts.{text-failed, text_read}
use Rattle.query.proofs.words.after_q_into.Goals as goal

pub returns-in_err-asked : goal.returns-in_err-asked
returns-in_err-asked c = rw (handed _ _ c.from_residual.ensures.1) (text-failed c.args.edition _ c.requires.0 _ _ _ c.prefix_into.ensures _ _ c.in_err-asked.was)

pub tail_into-requires : goal.tail_into-requires
tail_into-requires c = let h = c.prefix_into.ensures in let p = h.leads _ _ c.in_ok-asked.was in (p.room _ refl, omega (arith, p.size, c.requires.1.0), omega (arith, p.size, p.rows _ refl))

pub returns : goal.returns
returns c = text_read c.args.edition _ c.requires.0 _ _ _ c.prefix_into.ensures _ _ _ _ c.in_ok-asked.was c.tail_into.ensures
