use Rattle.std.proofs.Common.{arith}
use Rattle.runs.proofs.Asking.{none_first, f_fsw, s_swu, else_first}
use Rattle.runs.proofs.asked.Goals as goal

pub returns-in-empty : goal.returns-in-empty
returns-in-empty c = none_first c.args.line.now (omega arith)

pub returns-in-70 : goal.returns-in-70
returns-in-70 c = f_fsw _ (omega arith) (omega arith)

pub returns-in-83 : goal.returns-in-83
returns-in-83 c = s_swu _ (omega arith) (omega arith)

pub returns-in_default : goal.returns-in_default
returns-in_default c = else_first c.args.line.now (λ e. omega arith) (λ e. omega arith)
