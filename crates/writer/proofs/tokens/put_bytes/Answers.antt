use native.Mathlib.Omega.{arith}
use Rattle.writer.proofs.Writes.{wrote_bytes}
use Rattle.writer.proofs.tokens.put_bytes.Goals as goal

pub returns : goal.returns
returns c = wrote_bytes _ _ _ c.requires (omega arith) c.copy_from_slice.ensures.after
