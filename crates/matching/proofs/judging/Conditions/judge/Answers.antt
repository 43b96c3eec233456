use native.Mathlib.Omega.{arith}
use Rattle.writer.proofs.Upto.{upto_take}
use Rattle.matching.proofs.Rows.{verdict_not, verdict_start, verdict_rows}
use Rattle.matching.proofs.judging.Conditions.judge.Goals as goal

pub judge_rows-requires : goal.judge_rows-requires
judge_rows-requires c = (verdict_start _ _ _ c.in-Some.ensures, c.requires.1)

pub returns-in-None : goal.returns-in-None
returns-in-None c = rw (upto_take c.args.symbols.now.prefix c.args.head.prefix_count (omega arith)) (verdict_not _ _ _ c.in-None.ensures)

pub returns-in-Some : goal.returns-in-Some
returns-in-Some c = rw (upto_take c.args.symbols.now.prefix c.args.head.prefix_count (omega arith)) (verdict_rows _ _ _ c.in-Some.ensures _ _ c.judge_rows.ensures)
