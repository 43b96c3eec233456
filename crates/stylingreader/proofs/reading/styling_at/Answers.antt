use Rattle.stylingreader.proofs.Strings.{styling_fails, styling-past, styling-done}
use Rattle.stylingreader.proofs.reading.styling_at.Goals as goal

pub returns-in_err-all : goal.returns-in_err-all
returns-in_err-all c = styling_fails _ _ _ _ _ _ c.from_residual.ensures.1 c.in_err-all.ensures

pub returns-then-all-s : goal.returns-then-all-s
returns-then-all-s c = styling-past _ _ _ _ _ c.in_ok-all.ensures c.requires c.if-all-s.true

pub returns : goal.returns
returns c = styling-done _ _ _ _ _ c.in_ok-all.ensures c.requires c.if-all-s.false
